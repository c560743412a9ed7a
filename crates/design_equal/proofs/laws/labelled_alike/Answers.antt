use Rattle.design_equal.proofs.RowLemmas.{alike}
use Rattle.design_equal.proofs.laws.labelled_alike.Goals as goal

pub returns : goal.returns
returns c = alike
