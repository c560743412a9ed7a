use Rattle.design_equal.proofs.Vocabulary.{◌≡◌, ℕ, Bool, true, take, some_holds}
use Rattle.design_equal.proofs.products.are_among.Given as goal

abbrev pub invariant-products : goal.invariant-products
invariant-products l = (bits : ℕ → Bool) → some_holds bits (take l.k l.first) ≡ true → some_holds bits l.second ≡ true
