use Rattle.diag_sweep.proofs.Vocabulary.{◌≡◌, flat_map, take, loose_along}
use Rattle.diag_sweep.proofs.branching.loose_wires.Given as goal

abbrev pub invariant-leads : goal.invariant-leads
invariant-leads l = record { items : l.wires.items ≡ flat_map (loose_along l.forest) (take l.k l.leads) }
