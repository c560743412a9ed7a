use Rattle.diag_sweep.proofs.Vocabulary.{◌≡◌, take, map, Foot}
use Rattle.diag_sweep.proofs.telling.wires_of_feet.Given as goal

abbrev pub invariant-feet : goal.invariant-feet
invariant-feet l = l.wires.items ≡ map (λ (foot : Foot). foot.0.0) (take l.k l.feet.items)
