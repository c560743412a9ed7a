use Rattle.std.proofs.Common.{◌≡◌, IsTrue, take}
use Rattle.machine_config.proofs.alike.are_alike.Given as goal

abbrev pub invariant-places : goal.invariant-places
invariant-places l = IsTrue l.same → take l.k l.one ≡ take l.k l.other
