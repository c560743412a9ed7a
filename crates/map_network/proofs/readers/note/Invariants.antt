use Rattle.map_network.proofs.Vocabulary.{◌≡◌, drop, length, noted}
use Rattle.map_network.proofs.readers.note.Given as goal

abbrev pub invariant-ins : goal.invariant-ins
invariant-ins l = (noted l.reader (drop l.k l.ins) l.readers.items ≡ noted l.reader l.ins l.fn.readers.items) × (length l.readers.items ≡ length l.fn.readers.items)
