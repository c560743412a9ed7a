use Rattle.std.proofs.Common.{◌≡◌, take}
use Rattle.machine_config.proofs.alike.count_from.Given as goal

abbrev pub invariant-places : goal.invariant-places
invariant-places l = take l.k l.one ≡ take l.k l.other
