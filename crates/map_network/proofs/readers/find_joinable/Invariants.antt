use Rattle.map_network.proofs.Vocabulary.{ℕ, ◌<◌, CanJoin}
use Rattle.map_network.proofs.readers.find_joinable.Given as goal

abbrev pub invariant-tables : goal.invariant-tables
invariant-tables l = (j : ℕ) → j < l.table → (r : ℕ) → CanJoin l.network j r → ⊥
