use Rattle.design_blif.proofs.DesignLemmas.{one_design}
use Rattle.design_blif.proofs.laws.a_text_has_one_design.Goals as goal

pub returns : goal.returns
returns c = one_design
