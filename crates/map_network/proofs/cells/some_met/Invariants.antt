use Rattle.map_network.proofs.Vocabulary.{◌≡◌, ◌<◌, ◌||◌, ℕ, drop, cell_at, any, met, six_bits}
use Rattle.map_network.proofs.cells.some_met.Given as goal

abbrev pub invariant-wants : goal.invariant-wants
invariant-wants l = (a : ℕ) → a < 64 → (cell_at l.cells a || any (met (drop l.k l.wants) (drop l.k (six_bits a)))) ≡ any (met l.wants (six_bits a))
