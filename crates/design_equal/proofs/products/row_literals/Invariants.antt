use Rattle.design_equal.proofs.Vocabulary.{◌≡◌, ℕ, Bool, take, map, matches, signal_bits, holds}
use Rattle.design_equal.proofs.products.row_literals.Given as goal

abbrev pub invariant-places : goal.invariant-places
invariant-places l = (bits : ℕ → Bool) → holds bits l.list.items ≡ matches (take l.k l.row) (map (signal_bits bits l.labels) (take l.k l.ins))
