use Rattle.map_network.proofs.Vocabulary.{ℕ, ◌<◌, ◌≡◌, false, in_tables, is_dropped, AreKept}
use Rattle.map_network.proofs.compact.is_closed.Given as goal

abbrev pub invariant-tables : goal.invariant-tables
invariant-tables l = (i : ℕ) → i < l.j → is_dropped l.dropped i ≡ false → AreKept l.dropped (in_tables l.network.tables i).ins
