use Rattle.machine_faults.proofs.Vocabulary.{false, length, logical_lines}
use Rattle.machine_faults.proofs.Reading.{IsReadTo}
use Rattle.machine_faults.proofs.read.read_lines.Given as goal

abbrev pub invariant-lines : goal.invariant-lines
invariant-lines l = IsReadTo l.shape (logical_lines false l.bytes) l.lines l.set

abbrev pub decreases-lines : goal.decreases-lines
decreases-lines l = length l.lines
