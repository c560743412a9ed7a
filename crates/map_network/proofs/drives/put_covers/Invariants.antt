use Rattle.map_network.proofs.Vocabulary.{◌≡◌, drop, take, length, sum_by, cover_size, written, cover_drives}
use Rattle.map_network.proofs.drives.put_covers.Given as goal

abbrev pub invariant-covers : goal.invariant-covers
invariant-covers l = record { len : length l.sources.items ≡ length l.fn.sources.items; sources : written l.sources.items (cover_drives l.first (drop l.k l.covers)) ≡ written l.fn.sources.items (cover_drives 0 l.covers); count : l.first ≡ sum_by cover_size (take l.k l.covers) }
