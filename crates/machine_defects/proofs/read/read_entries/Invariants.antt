use Rattle.machine_defects.proofs.Vocabulary.{◌≡◌, ◌+◌, length, rows_of, IsReadTo}
use Rattle.machine_defects.proofs.read.read_entries.Given as goal

abbrev pub invariant-lines : goal.invariant-lines
invariant-lines l = (l.line ≡ length (rows_of l.list) + 1) × IsReadTo l.fn.list.shape l.bytes l.left l.list l.last

abbrev pub decreases-lines : goal.decreases-lines
decreases-lines l = length l.left
