use Rattle.diag_sweep.proofs.Vocabulary.{◌≡◌, ◌≤◌, has_number, pin_wire, how_many}
use Rattle.diag_sweep.proofs.budget.pins_of_field.Given as goal

abbrev pub invariant-pins : goal.invariant-pins
invariant-pins l = record {
  count : l.count ≡ how_many (λ i. has_number l.field.wires (pin_wire l.shape i)) l.i;
  few : l.count ≤ l.i;
}
