-- The first place with a property, in a list and in a longer one.
use Rattle.design_flatten.proofs.Vocabulary.{◌≡◌, ℕ, ◌<◌, Option, None, Some, subst, sym, arith, inl, inr, ◌⊎◌, IsBefore, IsFirst}

module _ (line : ℕ → ℕ) where
  pub before_before : (i j k : ℕ) → IsBefore line i j → IsBefore line j k → IsBefore line i k
  before_before i j k (inl a) (inl b) = inl (omega arith)
  before_before i j k (inl a) (inr b) = let same = b.0 in inl (omega arith)
  before_before i j k (inr a) (inl b) = let same = a.0 in inl (omega arith)
  before_before i j k (inr a) (inr b) = let one = a.0 in let two = b.0 in let low = a.1 in let high = b.1 in inr (omega arith, omega arith)

  -- place k is place i, or comes after it
  abbrev pub Comes : ℕ → ℕ → Type 0
  Comes i k = (k ≡ i) ⊎ IsBefore line i k

  pub comes_comes : (i j k : ℕ) → Comes i j → Comes j k → Comes i k
  comes_comes i j k (inl e) h = subst (λ x. Comes x k) e h
  comes_comes i j k (inr a) (inl e) = inr (subst (λ x. IsBefore line i x) (sym e) a)
  comes_comes i j k (inr a) (inr b) = inr (before_before i j k a b)

-- lines of the first places are the same in both
module _ (n : ℕ) (one other : ℕ → ℕ) (same : (k : ℕ) → k < n → other k ≡ one k) where
  pub before_to : (i k : ℕ) → i < n → k < n → IsBefore one i k → IsBefore other i k
  before_to i k li lk (inl a) = inl (omega (arith, a, same i li, same k lk))
  before_to i k li lk (inr b) = let e = b.0 in let lt = b.1 in inr (omega (arith, e, same i li, same k lk), lt)

  pub before_from : (i k : ℕ) → i < n → k < n → IsBefore other i k → IsBefore one i k
  before_from i k li lk (inl a) = inl (omega (arith, a, same i li, same k lk))
  before_from i k li lk (inr b) = let e = b.0 in let lt = b.1 in inr (omega (arith, e, same i li, same k lk), lt)

  pub first_to : (P Q : ℕ → Type 0) (found : Option ℕ) → ((k : ℕ) → k < n → P k → Q k) → ((k : ℕ) → k < n → Q k → P k) → IsFirst one n P found → IsFirst other n Q found
  first_to P Q None to from h = λ k lt q. h k lt (from k lt q)
  first_to P Q (Some i) to from h = (h.0, to i h.0 h.1, λ k lt q. elim (h.2 k lt (from k lt q)) [ inl e ↦ inl e | inr b ↦ inr (before_to i k h.0 lt b) ])
