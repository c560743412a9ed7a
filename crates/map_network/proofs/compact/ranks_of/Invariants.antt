use Rattle.map_network.proofs.Vocabulary.{◌≡◌, ◌≤◌, rank, AreRanks}
use Rattle.map_network.proofs.compact.ranks_of.Given as goal

abbrev pub invariant-tables : goal.invariant-tables
invariant-tables l = record {
  ranks : AreRanks l.dropped l.j l.ranks.items;
  count : l.count ≡ rank l.dropped l.j;
  few : l.count ≤ l.j;
}
