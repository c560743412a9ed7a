use Rattle.map_network.proofs.Vocabulary.{◌≡◌, ◌<◌, ◌&&◌, ℕ, drop, matches, cell_at, masks_at}
use Rattle.map_network.proofs.cells.row_mask.Given as goal

abbrev pub invariant-places : goal.invariant-places
invariant-places l = (a : ℕ) → a < 64 → (cell_at l.cells a && matches (drop l.k l.row) (drop l.k (masks_at l.masks a))) ≡ matches l.row (masks_at l.masks a)
