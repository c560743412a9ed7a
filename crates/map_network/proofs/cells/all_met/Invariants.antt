use Rattle.map_network.proofs.Vocabulary.{◌≡◌, ◌<◌, ◌&&◌, ℕ, drop, cell_at, every, met, six_bits}
use Rattle.map_network.proofs.cells.all_met.Given as goal

abbrev pub invariant-wants : goal.invariant-wants
invariant-wants l = (a : ℕ) → a < 64 → (cell_at l.cells a && every (met (drop l.k l.wants) (drop l.k (six_bits a)))) ≡ every (met l.wants (six_bits a))
