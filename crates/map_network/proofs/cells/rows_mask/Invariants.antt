use Rattle.map_network.proofs.Vocabulary.{◌≡◌, ◌<◌, ◌||◌, ℕ, drop, some_matches, cell_at, masks_at}
use Rattle.map_network.proofs.cells.rows_mask.Given as goal

abbrev pub invariant-rows : goal.invariant-rows
invariant-rows l = (a : ℕ) → a < 64 → (cell_at l.cells a || some_matches (drop l.k l.rows) (masks_at l.masks a)) ≡ some_matches l.rows (masks_at l.masks a)
