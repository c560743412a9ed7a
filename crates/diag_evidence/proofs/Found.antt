-- What is found in a list of which some element passes a test.
use Rattle.std.proofs.Common.{◌≡◌, ◌⊎◌, inl, inr, ℕ, suc, ◌<◌, Bool, true, List, [], ◌∷◌, length, get_or, arith}
use Rattle.diag_evidence.proofs.Vocabulary.{list_any, false≢true, or_cases}

-- the element of which a test holds
pub record IsSome_of {A : Type 0} (p : A → Bool) (xs : List A) : Type 0 where
  pub place : ℕ
  pub below : place < length xs
  pub holds : (d : A) → p (get_or xs place d) ≡ true

pub some_of : {A : Type 0} (p : A → Bool) (xs : List A) → list_any p xs ≡ true → IsSome_of p xs
some_of p [] is = absurd (false≢true is)
some_of p (x ∷ xs) is = by (or_cases (p x) (list_any p xs) is) (some_of p xs)
  where
    by : (p x ≡ true) ⊎ (list_any p xs ≡ true) → (list_any p xs ≡ true → IsSome_of p xs) → IsSome_of p (x ∷ xs)
    by (inl h) more = record { place = 0; below = omega arith; holds = λ d. h }
    by (inr h) more = let s = more h in let b = s.below in record { place = suc s.place; below = omega (arith, b); holds = s.holds }
