use Rattle.map_network.proofs.Vocabulary.{◌≡◌, ◌++◌, drop, row_wants, source_in}
use Rattle.map_network.proofs.covers.gather.Given as goal

abbrev pub invariant-places : goal.invariant-places
invariant-places l = l.wants.items ++ row_wants (source_in l.sources) (drop l.k l.row) (drop l.k l.ins) ≡ row_wants (source_in l.sources) l.row l.ins
