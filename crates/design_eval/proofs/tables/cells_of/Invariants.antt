use Rattle.design_eval.proofs.Vocabulary.{◌≡◌, ℕ, ◌<◌, take, get_or, length, false, truth_at, six_bits}
use Rattle.design_eval.proofs.tables.cells_of.Given as goal

abbrev pub invariant-cells : goal.invariant-cells
invariant-cells l = (length l.cells ≡ 64) × ((j : ℕ) → j < l.a → get_or l.cells j false ≡ truth_at l.cover (take (length l.cover.ins) (six_bits j)))
