use Rattle.design_eval.proofs.Vocabulary.{◌≡◌, ◌-◌, drop, bit_at, address}
use Rattle.design_eval.proofs.tables.address_of.Given as goal

abbrev pub invariant-wires : goal.invariant-wires
invariant-wires l = l.place ≡ address (bit_at l.values) (drop (6 - l.k) l.wires)
