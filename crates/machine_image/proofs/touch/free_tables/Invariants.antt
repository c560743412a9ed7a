use Rattle.machine_image.proofs.Vocabulary.{◌<◌, ℕ, get_or, Table, IsFreeTable}
use Rattle.machine_image.proofs.touch.free_tables.Given as goal

abbrev pub invariant-tables : goal.invariant-tables
invariant-tables l = (j : ℕ) (d : Table) → j < l.i → IsFreeTable l.defects.shape l.defects.list (get_or l.tables j d).0
