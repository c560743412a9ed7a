use Rattle.map_network.proofs.Vocabulary.{◌≡◌, ◌++◌, map, false, gate_table, groups}
use Rattle.map_network.proofs.trees.push_groups.Given as goal

abbrev pub invariant-groups : goal.invariant-groups
invariant-groups l = l.tables.items ≡ l.fn.tables.items ++ map (gate_table l.gate false) (groups l.k l.wants)
