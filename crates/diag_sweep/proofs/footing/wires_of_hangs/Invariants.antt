use Rattle.diag_sweep.proofs.Vocabulary.{◌≡◌, take, map, WireTest}
use Rattle.diag_sweep.proofs.footing.wires_of_hangs.Given as goal

abbrev pub invariant-hangs : goal.invariant-hangs
invariant-hangs l = l.wires.items ≡ map (λ (h : WireTest). h.wire.0) (take l.k l.hangs)
