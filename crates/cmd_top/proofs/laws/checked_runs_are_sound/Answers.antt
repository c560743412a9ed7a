use Rattle.cmd_top.proofs.ChainLemmas.{is-certified}
use Rattle.cmd_top.proofs.laws.checked_runs_are_sound.Goals as goal

pub returns : goal.returns
returns c = λ machine name image vectors other old ran later checked. is-certified machine name image vectors other old ran later checked
