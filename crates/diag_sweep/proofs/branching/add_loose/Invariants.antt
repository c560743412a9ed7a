use Rattle.diag_sweep.proofs.Vocabulary.{◌≡◌, ◌++◌, not, take, filter, is_hung, wires_along}
use Rattle.diag_sweep.proofs.branching.add_loose.Given as goal

abbrev pub invariant-places : goal.invariant-places
invariant-places l = record { items : l.wires.items ≡ l.fn.wires.items ++ filter (λ w. not (is_hung l.forest w)) (take l.k (wires_along l.lead)) }
