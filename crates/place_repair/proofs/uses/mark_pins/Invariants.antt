use Rattle.place_repair.proofs.Vocabulary.{◌≡◌, pin_wire, IsMarked, IsOfFirst}
use Rattle.place_repair.proofs.uses.mark_pins.Given as goal

abbrev pub invariant-loop-i : goal.invariant-loop-i
invariant-loop-i l = IsMarked (IsOfFirst (λ k w. pin_wire l.shape k ≡ w) 0 l.pins l.i) l.fn.marks l.marks
