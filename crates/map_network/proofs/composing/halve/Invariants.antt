use Rattle.map_network.proofs.Vocabulary.{◌≡◌, ◌+◌, ◌*◌, ◌<◌, ◌≤◌, ℕ, slice_index, if◌then◌else◌, cell_at}
use Rattle.map_network.proofs.composing.halve.Given as goal

abbrev pub invariant-parts : goal.invariant-parts
invariant-parts l =
    ((i a : ℕ) → i < l.j → a < 64 → cell_at (slice_index l.parts i) a
    ≡ (if cell_at l.mask a then cell_at (slice_index l.fn.parts (2 * i + 1)) a else cell_at (slice_index l.fn.parts (2 * i)) a))
    × ((i : ℕ) → l.j ≤ i → slice_index l.parts i ≡ slice_index l.fn.parts i)
