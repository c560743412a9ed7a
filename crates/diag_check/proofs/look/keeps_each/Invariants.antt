use Rattle.diag_check.proofs.Vocabulary.{◌<◌, ℕ, get_or, Table, KeepsTableOf}
use Rattle.diag_check.proofs.look.keeps_each.Given as goal

abbrev pub invariant-tables : goal.invariant-tables
invariant-tables l = (k : ℕ) (d : Table) → k < l.j → KeepsTableOf l.facts l.image (get_or l.tables k d).0
