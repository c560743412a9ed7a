use Rattle.std.proofs.Common.{◌≡◌, ℕ, ◌<◌, get_or, length, false}
use Rattle.design_eval.proofs.smalls.first_cells.Given as goal

abbrev pub invariant-cells : goal.invariant-cells
invariant-cells l = (length l.first ≡ 16) × ((j : ℕ) → j < l.a → get_or l.first j false ≡ get_or l.cells j false)
