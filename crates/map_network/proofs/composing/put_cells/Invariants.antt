use Rattle.map_network.proofs.Vocabulary.{◌≡◌, ◌+◌, ◌<◌, ℕ, slice_index, cell_at}
use Rattle.map_network.proofs.composing.put_cells.Given as goal

abbrev pub invariant-cells : goal.invariant-cells
invariant-cells l = (i a : ℕ) → i < l.j → a < 64 → cell_at (slice_index l.parts i) a ≡ cell_at l.cells (l.from + i)
