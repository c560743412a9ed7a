use Rattle.design_laws.proofs.DesignLemmas.{one_model_law}
use Rattle.design_laws.proofs.one_model_is_short.Goals as goal

pub returns : goal.returns
returns c = one_model_law
