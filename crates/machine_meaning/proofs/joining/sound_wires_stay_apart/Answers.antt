use Rattle.machine_meaning.proofs.Bounded.{joined_within}
use Rattle.machine_meaning.proofs.joining.sound_wires_stay_apart.Goals as goal

pub returns : goal.returns
returns c = λ m f closed within sound stay a b is j. joined_within m f closed within sound stay is j
