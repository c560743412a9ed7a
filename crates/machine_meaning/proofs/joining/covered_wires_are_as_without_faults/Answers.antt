use Rattle.machine_shape.proofs.Crossings.{first_below}
use Rattle.machine_meaning.proofs.Covered.{none_stuck, joined_plainly}
use Rattle.machine_meaning.proofs.joining.covered_wires_are_as_without_faults.Goals as goal

pub returns : goal.returns
returns c = λ m d f closed covers free w v h is j.
    (none_stuck m d f closed covers (first_below m) free h is j, λ k on. joined_plainly m d f closed covers (first_below m) free h k is on j)
