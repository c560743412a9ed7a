use Rattle.map_network.proofs.Vocabulary.{◌≡◌, ◌+◌, drop, length, written, latch_drives}
use Rattle.map_network.proofs.drives.put_latches.Given as goal

abbrev pub invariant-latches : goal.invariant-latches
invariant-latches l = record { len : length l.sources.items ≡ length l.fn.sources.items; sources : written l.sources.items (latch_drives (l.first + l.k) (drop l.k l.latches)) ≡ written l.fn.sources.items (latch_drives l.first l.latches) }
