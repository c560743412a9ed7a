use Rattle.diag_machine.proofs.Vocabulary.{◌≡◌, ◌<◌, ℕ, true, keeps_cell}
use Rattle.diag_machine.proofs.list.keeps_table.Given as goal

abbrev pub invariant-cells : goal.invariant-cells
invariant-cells l = (a : ℕ) → a < l.address → keeps_cell l.facts l.t.0 a ≡ true
