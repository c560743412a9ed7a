use Rattle.design_equal.proofs.Vocabulary.{◌≡◌, ℕ, Bool, false, take, holds}
use Rattle.design_equal.proofs.products.product_of.Given as goal

abbrev pub invariant-literals : goal.invariant-literals
invariant-literals l = (bits : ℕ → Bool) → bits 0 ≡ false → holds bits l.product.items ≡ holds bits (take l.k l.list.items)
