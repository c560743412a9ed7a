-- The first place with a property, found so far.
use Rattle.std.proofs.Common.{◌≡◌, ℕ, ◌+◌, ◌<◌, ◌≤◌, ◌&&◌, Bool, true, false, cond, Option, None, Some, refl, sym, subst, arith, inl, inr, ◌⊎◌}
use Rattle.design_netlist.proofs.Vocabulary.{ltb-true, ltb-false, cases_eq, cases_lt, IsBefore, IsFirst, is_sooner}

module _ (line : ℕ → ℕ) where
  after_sooner : (i j k : ℕ) → line i < line j → (k ≡ j) ⊎ IsBefore line j k → IsBefore line i k
  after_sooner i j k lt (inl e) = inl (rw e lt)
  after_sooner i j k lt (inr (inl a)) = inl (omega arith)
  after_sooner i j k lt (inr (inr a)) = inl (omega arith)

  pub not_both : (i j : ℕ) → IsBefore line i j → IsBefore line j i → ⊥
  not_both i j (inl a) (inl b) = omega arith
  not_both i j (inl a) (inr b) = omega arith
  not_both i j (inr a) (inl b) = omega arith
  not_both i j (inr a) (inr b) = omega arith

  pub not_itself : (i : ℕ) → IsBefore line i i → ⊥
  not_itself i (inl a) = omega arith
  not_itself i (inr a) = omega arith

  module _ (P : ℕ → Type 0) where
    pub first_more : (i : ℕ) (found : Option ℕ) (is sooner : Bool) → IsFirst line i P found → (is ≡ true → P i) → (P i → is ≡ true) → sooner ≡ is_sooner line i found → IsFirst line (i + 1) P (cond (is && sooner) (Some i) found)
    first_more i None false sooner h is only e = λ k lt d. elim (cases_eq k i) [ inl s ↦ (let f : false ≡ true = only (subst P s d) in cc) | inr s ↦ h k (omega arith) d ]
    first_more i (Some j) false sooner h is only e =
        (omega (arith, h.0), h.1, λ k lt d. elim (cases_eq k i) [ inl s ↦ absurd (let f : false ≡ true = only (subst P s d) in cc) | inr s ↦ h.2 k (omega arith) d ])
    first_more i None true true h is only e =
        (omega arith, is refl, λ k lt d. elim (cases_eq k i) [ inl s ↦ inl s | inr s ↦ absurd (h k (omega arith) d) ])
    first_more i None true false h is only e = absurd cc
    first_more i (Some j) true true h is only e =
        let lower : line i < line j = ltb-true _ _ (sym e) in
        (omega arith, is refl, λ k lt d. elim (cases_eq k i) [ inl s ↦ inl s | inr s ↦ inr (after_sooner i j k lower (h.2 k (omega arith) d)) ])
    first_more i (Some j) true false h is only e =
        let upper : line j ≤ line i = ltb-false _ _ (sym e) in
        (omega (arith, h.0), h.1, λ k lt d. elim (cases_eq k i) [ inl s ↦ inr (subst (λ x. IsBefore line j x) (sym s) (later upper h.0)) | inr s ↦ h.2 k (omega arith) d ])
      where
        later : line j ≤ line i → j < i → IsBefore line j i
        later le lt = elim (cases_lt (line j) (line i)) [ inl a ↦ inl a | inr a ↦ inr (omega arith, lt) ]

    pub first_all : (n m : ℕ) (found : Option ℕ) → m ≡ n → IsFirst line m P found → IsFirst line n P found
    first_all n m None e h = λ k lt d. h k (omega arith) d
    first_all n m (Some i) e h = (omega (arith, h.0), h.1, λ k lt d. h.2 k (omega arith) d)

    -- a property that holds at the same places has the same first one
    pub first_same : (Q : ℕ → Type 0) (n : ℕ) (found : Option ℕ) → ((k : ℕ) → k < n → P k → Q k) → ((k : ℕ) → k < n → Q k → P k) → IsFirst line n P found → IsFirst line n Q found
    first_same Q n None to from h = λ k lt q. h k lt (from k lt q)
    first_same Q n (Some i) to from h = (h.0, to i h.0 h.1, λ k lt q. h.2 k lt (from k lt q))
