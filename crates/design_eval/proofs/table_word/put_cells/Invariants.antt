use Rattle.design_eval.proofs.Vocabulary.{◌≡◌, ◌<◌, ℕ, get_or, false, number_at, is_bit}
use Rattle.design_eval.proofs.table_word.put_cells.Given as goal

abbrev pub invariant-cells : goal.invariant-cells
invariant-cells l = (b j : ℕ) → b < l.a → j < 64 → is_bit (number_at l.parts b) j ≡ get_or l.cells b false
