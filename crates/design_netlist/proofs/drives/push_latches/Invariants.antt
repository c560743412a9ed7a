use Rattle.design_netlist.proofs.Vocabulary.{◌≡◌, ◌++◌, take, map, latch_drive}
use Rattle.design_netlist.proofs.drives.push_latches.Given as goal

abbrev pub invariant-latches : goal.invariant-latches
invariant-latches l = l.words.items ≡ l.fn.words.items ++ map latch_drive (take l.k l.latches)
