use Rattle.machine_image.proofs.Vocabulary.{◌≡◌, counts_of}
use Rattle.machine_image.proofs.Steps.{CountsSoFar}
use Rattle.machine_image.proofs.read.read_counts.Given as goal

abbrev pub invariant-counts : goal.invariant-counts
invariant-counts l = CountsSoFar l.shape l.bytes l.start (counts_of l.shape) l.at l.i × (l.due ≡ counts_of l.shape)
