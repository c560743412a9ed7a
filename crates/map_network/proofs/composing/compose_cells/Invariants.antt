use Rattle.map_network.proofs.Vocabulary.{◌≡◌, ◌+◌, ◌-◌, ◌^◌, ◌<◌, ℕ, drop, length, slice_index, cell_at, number_of, masks_at}
use Rattle.map_network.proofs.composing.compose_cells.Given as goal

abbrev pub invariant-pins : goal.invariant-pins
invariant-pins l =
    (l.size ≡ 2 ^ (length l.masks - l.k))
    × ((a : ℕ) → a < 64 → cell_at (slice_index l.parts (number_of (drop l.k (masks_at l.masks a)))) a
    ≡ cell_at l.cells (64 - 2 ^ length l.masks + number_of (masks_at l.masks a)))
