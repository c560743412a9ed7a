-- Lists in which each number of a set stands once.
use Rattle.std.proofs.Common.{◌≡◌, ℕ, zero, suc, ◌+◌, ◌<◌, List, [], ◌∷◌, Bool, true, false, length, get_or, All, refl, ap, subst, arith, ◌==◌, if◌then◌else◌, count_by}
use Rattle.std.proofs.lemmas.{Bool.Decides.nat_tests, List.Sums.sum_by-cons}

module _ {X : Type 0} (key : X → ℕ) where
  -- where a number stands
  found : (q : ℕ) (xs : List X) → 0 < count_by (λ x. key x == q) xs → (x : X) × (j : ℕ) × (j < length xs) × ((d : X) → key (get_or xs j d) ≡ q)
  found q [] h = absurd (let no : ⊥ = omega (arith, h) in no)
  found q (x ∷ xs) h = by_head (key x == q) refl (sum_by-cons (λ y. if key y == q then 1 else 0) x xs) (found q xs)
    where
      by_head : (b : Bool) → (key x == q) ≡ b → count_by (λ x. key x == q) (x ∷ xs) ≡ (if key x == q then 1 else 0) + count_by (λ x. key x == q) xs →
          (0 < count_by (λ x. key x == q) xs → (y : X) × (j : ℕ) × (j < length xs) × ((d : X) → key (get_or xs j d) ≡ q)) → (y : X) × (j : ℕ) × (j < length (x ∷ xs)) × ((d : X) → key (get_or (x ∷ xs) j d) ≡ q)
      by_head true e s more = let same : key x ≡ q = grind (arith, nat_tests, e) in (x, 0, omega arith, λ d. same)
      by_head false e s more = let r = more (let t = ap (λ b. (if b then 1 else 0) + count_by (λ x. key x == q) xs) e in omega (arith, h, s, t)) in (r.0, suc r.1, omega (arith, r.2), λ d. r.3 d)

  counted : (xs : List X) (k : ℕ) (d : X) → k < length xs → 0 < count_by (λ x. key x == key (get_or xs k d)) xs
  counted [] k d l = absurd (let no : ⊥ = omega (arith, l) in no)
  counted (x ∷ xs) zero d l =
      let s = sum_by-cons (λ y. if key y == key x then 1 else 0) x xs in
      let t = ap (λ b. (if b then 1 else 0) + count_by (λ y. key y == key x) xs) (let same : (key x == key x) ≡ true = grind (arith, nat_tests) in same) in
      omega (arith, s, t)
  counted (x ∷ xs) (suc k) d l =
      let s = sum_by-cons (λ y. if key y == key (get_or xs k d) then 1 else 0) x xs in
      omega (arith, s, counted xs k d (omega (arith, l)))

  module _ (xs : List X) (f : ℕ → Bool) (counts : (q : ℕ) → count_by (λ x. key x == q) xs ≡ (if f q then 1 else 0)) where
    once : (q : ℕ) → f q ≡ true → 0 < count_by (λ x. key x == q) xs
    once q e = let one : ◌≡◌ {A = ℕ} (if f q then 1 else 0) 1 = ap {B = ℕ} (λ b. if b then 1 else 0) e in omega (arith, counts q, one)

    -- each number of the set stands in the list, and each of the list is one of the set
    pub listed : (q : ℕ) (d : X) → f q ≡ true → (j : ℕ) × (j < length xs) × (key (get_or xs j d) ≡ q)
    listed q d e = let r = found q xs (once q e) in (r.1, r.2, r.3 d)

    pub of_list : (k : ℕ) (d : X) → k < length xs → f (key (get_or xs k d)) ≡ true
    of_list k d l = by_bool (f (key (get_or xs k d))) (counts (key (get_or xs k d)))
      where
        by_bool : (b : Bool) → count_by (λ x. key x == key (get_or xs k d)) xs ≡ (if b then 1 else 0) → b ≡ true
        by_bool true e = refl
        by_bool false e = absurd (let no : ⊥ = omega (arith, e, counted xs k d l) in no)

    -- what holds of the set's numbers holds of the list's, and the other way round
    module _ (P : ℕ → Type 0) where
      pub of_set : ((q : ℕ) → f q ≡ true → P q) → All (λ x. P (key x)) xs
      of_set h k d l = h (key (get_or xs k d)) (of_list k d l)

      pub to_set : All (λ x. P (key x)) xs → (q : ℕ) → f q ≡ true → P q
      to_set all q e = let r = found q xs (once q e) in subst P (r.3 r.0) (all r.1 r.0 r.2)
