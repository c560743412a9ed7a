use Rattle.std.proofs.Common.{◌≡◌, take, map, true, slice_index_or}
use Rattle.run_image.proofs.run.read_pins.Given as goal

abbrev pub invariant-places : goal.invariant-places
invariant-places l = take l.k l.out ≡ map (λ k. slice_index_or l.read k true) (take l.k l.pins)
