use Rattle.map_network.proofs.Vocabulary.{◌≡◌, ◌<◌, ℕ, drop, pin_named, six_bits}
use Rattle.map_network.proofs.cells.name_mask.Given as goal

abbrev pub invariant-names : goal.invariant-names
invariant-names l = (a : ℕ) → a < 64 → pin_named (drop l.k l.names) (drop l.k (six_bits a)) l.name ≡ pin_named l.names (six_bits a) l.name
