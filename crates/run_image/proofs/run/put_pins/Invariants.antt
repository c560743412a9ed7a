use Rattle.std.proofs.Common.{◌≡◌, ◌+◌, ◌++◌, take, map, length, true, slice_index_or}
use Rattle.run_image.proofs.run.put_pins.Given as goal

abbrev pub invariant-places : goal.invariant-places
invariant-places l = (take (l.from + l.k) l.out ≡ take l.from l.fn.out ++ map (λ k. slice_index_or l.read k true) (take l.k l.pins)) × (length l.out ≡ length l.fn.out)
