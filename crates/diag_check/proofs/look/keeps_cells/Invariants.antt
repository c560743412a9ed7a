use Rattle.diag_check.proofs.Vocabulary.{◌≡◌, ◌<◌, ℕ, true, keeps_cell}
use Rattle.diag_check.proofs.look.keeps_cells.Given as goal

abbrev pub invariant-cells : goal.invariant-cells
invariant-cells l = (a : ℕ) → a < l.address → keeps_cell l.facts l.table.0 a ≡ true
