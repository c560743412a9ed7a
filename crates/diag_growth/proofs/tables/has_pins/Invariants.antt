use Rattle.diag_growth.proofs.Vocabulary.{◌<◌, ℕ, table_wire, HasWire}
use Rattle.diag_growth.proofs.tables.has_pins.Given as goal

abbrev pub invariant-pins : goal.invariant-pins
invariant-pins l = record { has : (i : ℕ) → i < l.j → HasWire l.known.steps (table_wire l.known.shape l.t.0 i) }
