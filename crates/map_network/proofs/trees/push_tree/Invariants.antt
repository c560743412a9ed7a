use Rattle.map_network.proofs.Vocabulary.{◌≡◌, ◌<◌, ◌+◌, ◌++◌, length, tree, tree_size}
use Rattle.map_network.proofs.trees.push_tree.Given as goal

abbrev pub invariant-levels : goal.invariant-levels
invariant-levels l = record {
  tables : l.tables.items ++ tree l.gate l.off (length l.tables.items) l.wants.items ≡ l.fn.tables.items ++ tree l.gate l.off (length l.fn.tables.items) l.fn.wants.items;
  room : length l.tables.items + tree_size (length l.wants.items) < 4294967296;
}

abbrev pub decreases-levels : goal.decreases-levels
decreases-levels l = length l.wants.items
