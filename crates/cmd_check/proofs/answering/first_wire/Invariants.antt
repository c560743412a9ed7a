use Rattle.cmd_check.proofs.Vocabulary.{◌≡◌, ◌<◌, ℕ, true, has_number, IsFreeWire}
use Rattle.cmd_check.proofs.answering.first_wire.Given as goal

abbrev pub invariant-wires : goal.invariant-wires
invariant-wires l = (u : ℕ) → u < l.w → has_number l.used u ≡ true → IsFreeWire l.list.list u
