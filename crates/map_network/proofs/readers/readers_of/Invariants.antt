use Rattle.map_network.proofs.Vocabulary.{◌≡◌, drop, length, replicate, noted_tables, unread}
use Rattle.map_network.proofs.readers.readers_of.Given as goal

abbrev pub invariant-tables : goal.invariant-tables
invariant-tables l = (noted_tables l.j (drop l.j l.tables) l.readers.items ≡ noted_tables 0 l.tables (replicate (length l.tables) unread)) × (length l.readers.items ≡ length l.tables)
