use Rattle.machine_config.proofs.Marks.{bit_after}
use Rattle.machine_config.proofs.laws.cells_are_set.Goals as goal

pub returns : goal.returns
returns c = λ s a y b. bit_after s.cells a y b
