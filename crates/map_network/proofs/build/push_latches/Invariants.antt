use Rattle.map_network.proofs.Vocabulary.{◌≡◌, ◌++◌, map, take, latch_table, source_in}
use Rattle.map_network.proofs.build.push_latches.Given as goal

abbrev pub invariant-latches : goal.invariant-latches
invariant-latches l = l.tables.items ≡ l.fn.tables.items ++ map (latch_table (source_in l.sources)) (take l.k l.latches)
