use Rattle.std.proofs.Common.{◌≡◌, ◌+◌, ◌++◌, take, length}
use Rattle.run_image.proofs.image.put_bits.Given as goal

abbrev pub invariant-bits : goal.invariant-bits
invariant-bits l = (take (l.from + l.k) l.all ≡ take l.from l.fn.all ++ take l.k l.bits) × (length l.all ≡ length l.fn.all)
