use Rattle.std.proofs.Common.{◌≡◌, ◌++◌, map}
use Rattle.machine_faults.specs.Written.{bridge_of}
use Rattle.machine_faults.proofs.write.bridges_of.Given as goal

abbrev pub invariant-pairs : goal.invariant-pairs
invariant-pairs l = l.bridges.items ++ map bridge_of l.p-iterator ≡ map bridge_of l.fn.pairs.keys
