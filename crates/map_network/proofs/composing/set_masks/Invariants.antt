use Rattle.map_network.proofs.Vocabulary.{◌≡◌, ◌<◌, ℕ, take, map, cell_at, six_bits, masks_at, number, bit_with}
use Rattle.map_network.proofs.composing.set_masks.Given as goal

abbrev pub invariant-read : goal.invariant-read
invariant-read l = (a : ℕ) → a < 64 →
    masks_at (take l.k l.masks) a ≡ map (bit_with (map number l.ins) (six_bits a) l.table (cell_at l.given a)) (take l.k l.read)
