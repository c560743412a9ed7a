use Rattle.design_equal.proofs.Vocabulary.{◌≡◌, ℕ, Bool, false, take, map, some_matches, signal_bits, some_holds}
use Rattle.design_equal.proofs.products.rows_sum.Given as goal

abbrev pub invariant-rows : goal.invariant-rows
invariant-rows l = (bits : ℕ → Bool) → bits 0 ≡ false → some_holds bits l.sum.items ≡ some_matches (take l.k l.rows) (map (signal_bits bits l.labels) l.ins)
