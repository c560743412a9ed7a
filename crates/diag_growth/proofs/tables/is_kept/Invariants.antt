use Rattle.diag_growth.proofs.Vocabulary.{◌≡◌, ◌<◌, ℕ, true, keeps_cell}
use Rattle.diag_growth.proofs.tables.is_kept.Given as goal

abbrev pub invariant-cells : goal.invariant-cells
invariant-cells l = record { kept : (a : ℕ) → a < l.address → keeps_cell l.facts l.t.0 a ≡ true }
