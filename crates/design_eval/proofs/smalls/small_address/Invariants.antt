use Rattle.design_eval.proofs.Vocabulary.{◌≡◌, ◌-◌, drop, bit_at, address}
use Rattle.design_eval.proofs.smalls.small_address.Given as goal

abbrev pub invariant-wires : goal.invariant-wires
invariant-wires l = l.place ≡ address (bit_at l.values) (drop (4 - l.k) l.wires)
