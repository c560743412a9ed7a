use Rattle.diag_check.proofs.Vocabulary.{◌≡◌, ◌<◌, ℕ, true, has_number, keeps_wire, HasWire}
use Rattle.diag_check.proofs.look.has_each.Given as goal

abbrev pub invariant-wires : goal.invariant-wires
invariant-wires l = (u : ℕ) → u < l.w → has_number l.used u ≡ true → (keeps_wire l.facts u ≡ true) × HasWire l.known.steps u
