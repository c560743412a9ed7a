use Rattle.std.proofs.Common.{◌≡◌, ◌==◌, take, map}
use Rattle.design_vectors.proofs.line.spell.Given as goal

abbrev pub invariant-loop-k : goal.invariant-loop-k
invariant-loop-k l = take l.k l.row ≡ map (λ b. b == 49) (take l.k l.bytes)
