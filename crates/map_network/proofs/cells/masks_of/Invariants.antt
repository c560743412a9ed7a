use Rattle.map_network.proofs.Vocabulary.{◌≡◌, ◌<◌, ℕ, take, map, length, pin_named, six_bits, masks_at}
use Rattle.map_network.proofs.cells.masks_of.Given as goal

abbrev pub invariant-ins : goal.invariant-ins
invariant-ins l = record { len : length l.masks.items ≡ l.k; each : (a : ℕ) → a < 64 → masks_at l.masks.items a ≡ map (pin_named l.names (six_bits a)) (take l.k l.ins) }
