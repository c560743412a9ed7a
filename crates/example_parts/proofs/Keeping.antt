-- Crosspoints that are kept, one after the other.
use Rattle.std.proofs.Common.{◌≡◌, ◌<◌, ◌+◌, ℕ, Bool, true, false, Some, List, length, take, refl, subst, arith, ◌==◌, slice_get}
use Rattle.std.proofs.lemmas.Bool.Decides.{nat_tests}
use Rattle.example_parts.proofs.Vocabulary.{among, Kept, keeps_cross, more_among}

-- where the first of a list are kept, and the next one is
pub kept_next : (k : Kept) (xs : List ℕ) (i x : ℕ) → i < length xs → slice_get xs i ≡ Some x → ((y : ℕ) → among (take i xs) y ≡ true → keeps_cross k y ≡ true) → keeps_cross k x ≡ true →
    (y : ℕ) → among (take (i + 1) xs) y ≡ true → keeps_cross k y ≡ true
kept_next k xs i x below at all one y is = by_test (x == y) refl
  where
    by_test : (t : Bool) → (x == y) ≡ t → keeps_cross k y ≡ true
    by_test true e = subst (λ z. keeps_cross k z ≡ true) (grind (arith, nat_tests)) one
    by_test false e = all y (grind (arith, nat_tests, more_among xs i x y below at))
