use Rattle.map_network.proofs.Vocabulary.{◌≡◌, wants_from}
use Rattle.map_network.proofs.trees.want_tables.Given as goal

abbrev pub invariant-tables : goal.invariant-tables
invariant-tables l = l.wants.items ≡ wants_from l.first l.k
