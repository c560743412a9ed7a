use Rattle.diag_growth.proofs.Vocabulary.{◌≡◌, ◌<◌, ℕ, true, has_number, HasWire}
use Rattle.diag_growth.proofs.complete.knows_each.Given as goal

abbrev pub invariant-wires : goal.invariant-wires
invariant-wires l = (u : ℕ) → u < l.w → has_number l.field.wires u ≡ true → HasWire l.known.steps u
