-- Ascending lists of just those numbers that have a property.
use Rattle.std.proofs.Common.{◌≡◌, ◌≢◌, ℕ, zero, suc, ◌<◌, List, [], ◌∷◌, ◌++◌, length, get_or, ◌⊎◌, inl, inr, refl, sym, ◌∙◌, subst, arith}
use Rattle.place_plan.proofs.Vocabulary.{AllPairs, Contains, cases_order, all_pairs_push, AreThose, IsNth}
use Rattle.std.proofs.lemmas.List.Elements.{All-push, All-weaker, All-contains, All-nil, Contains-push, Contains-append_left}

pub not_in_nil : (x : ℕ) → Contains [] x → ⊥
not_in_nil x has = none has.0 has.1
  where
    none : (k : ℕ) → k < 0 → ⊥
    none k lt = omega arith

pub those_same : (P Q : ℕ → Type 0) (ks : List ℕ) → AreThose P ks → ((k : ℕ) → P k → Q k) → ((k : ℕ) → Q k → P k) → AreThose Q ks
those_same P Q ks are to from = record { ascending = are.ascending; only = All-weaker P Q to ks are.only; each = λ k q. are.each k (from k q) }

pub those_none : (P : ℕ → Type 0) → ((k : ℕ) → P k → ⊥) → AreThose P []
those_none P never = record { ascending = λ i j d lt l. absurd (none j l); only = All-nil P; each = λ k p. absurd (never k p) }
  where
    none : (k : ℕ) → k < 0 → ⊥
    none k lt = omega arith

pub those_push : (P Q : ℕ → Type 0) (ks : List ℕ) (v : ℕ) → AreThose P ks → ((k : ℕ) → P k → k < v) → ((k : ℕ) → P k → Q k) → Q v → ((k : ℕ) → Q k → P k ⊎ (k ≡ v)) → AreThose Q (ks ++ v ∷ [])
those_push P Q ks v are low to here cases = record {
  ascending = all_pairs_push (λ a b. a < b) ks v are.ascending (λ k d lt. low (get_or ks k d) (are.only k d lt));
  only = All-push Q ks v (All-weaker P Q to ks are.only) here;
  each = λ k q. elim (cases k q) [ inl p ↦ Contains-append_left ks (v ∷ []) k (are.each k p) | inr e ↦ subst (Contains (ks ++ v ∷ [])) (sym e) (Contains-push ks v) ];
}

-- what all have that are in the list
pub those_have : (P : ℕ → Type 0) (ks : List ℕ) (k : ℕ) → AreThose P ks → Contains ks k → P k
those_have P ks k are has = All-contains P ks k are.only has

contains_head : (x : ℕ) (xs : List ℕ) → Contains (x ∷ xs) x
contains_head x xs = (0, omega arith, refl)

contains_more : (x k : ℕ) (xs : List ℕ) → Contains xs k → Contains (x ∷ xs) k
contains_more x k xs has = (suc has.0, omega (arith, has.1), has.2)

-- in an ascending list the first is the least
least : (x k : ℕ) (xs : List ℕ) → AllPairs (λ a b. a < b) (x ∷ xs) → Contains xs k → x < k
least x k xs up has = subst (λ z. x < z) has.2 (up 0 (suc has.0) k (omega arith) (omega (arith, has.1)))

tail_up : (x : ℕ) (xs : List ℕ) → AllPairs (λ a b. a < b) (x ∷ xs) → AllPairs (λ a b. a < b) xs
tail_up x xs up i j d lt l = up (suc i) (suc j) d (omega arith) (omega arith)

head_or : (x k : ℕ) (xs : List ℕ) → Contains (x ∷ xs) k → (x ≡ k) ⊎ Contains xs k
head_or x k xs (zero, lt, e) = inl e
head_or x k xs (suc i, lt, e) = inr (i, omega arith, e)

differ : (a b : ℕ) → a < b → a ≡ b → ⊥
differ a b lt e = omega arith

both : (a b : ℕ) → a < b → b < a → ⊥
both a b lt gt = omega arith

-- ascending lists with the same numbers are the same
pub same_lists : (xs ys : List ℕ) → AllPairs (λ a b. a < b) xs → AllPairs (λ a b. a < b) ys → ((k : ℕ) → Contains xs k → Contains ys k) → ((k : ℕ) → Contains ys k → Contains xs k) → xs ≡ ys
same_lists [] [] ux uy to from = refl
same_lists [] (y ∷ ys) ux uy to from = absurd (not_in_nil y (from y (contains_head y ys)))
same_lists (x ∷ xs) [] ux uy to from = absurd (not_in_nil x (to x (contains_head x xs)))
same_lists (x ∷ xs) (y ∷ ys) ux uy to from = joined heads (same_lists xs ys (tail_up x xs ux) (tail_up y ys uy) (λ k h. there k h) (λ k h. back k h))
  where
    heads : x ≡ y
    heads = elim (head_or y x ys (to x (contains_head x xs))) [
      | inl e ↦ sym e
      | inr h ↦ elim (head_or x y xs (from y (contains_head y ys))) [ inl e ↦ e | inr g ↦ absurd (both x y (least x y xs ux g) (least y x ys uy h)) ]
    ]

    there : (k : ℕ) → Contains xs k → Contains ys k
    there k h = elim (head_or y k ys (to k (contains_more x k xs h))) [ inl e ↦ absurd (differ x k (least x k xs ux h) (heads ∙ e)) | inr g ↦ g ]

    back : (k : ℕ) → Contains ys k → Contains xs k
    back k h = elim (head_or x k xs (from k (contains_more y k ys h))) [ inl e ↦ absurd (differ y k (least y k ys uy h) (sym heads ∙ e)) | inr g ↦ g ]

    joined : x ≡ y → xs ≡ ys → (x ∷ xs) ≡ (y ∷ ys)
    joined e f = cc

pub those_unique : (P : ℕ → Type 0) (xs ys : List ℕ) → AreThose P xs → AreThose P ys → xs ≡ ys
those_unique P xs ys are is = same_lists xs ys are.ascending is.ascending (λ k h. is.each k (those_have P xs k are h)) (λ k h. are.each k (those_have P ys k is h))

-- at one place of an ascending list
pub same_place : (xs : List ℕ) (i j k : ℕ) → AllPairs (λ a b. a < b) xs → IsNth xs i k → IsNth xs j k → i ≡ j
same_place xs i j k up a b = by (cases_order i j)
  where
    differ : (p q : ℕ) → p < q → p ≡ k → q ≡ k → ⊥
    differ p q l e f = omega arith

    by : (i ≡ j) ⊎ ((i < j) ⊎ (j < i)) → i ≡ j
    by (inl e) = e
    by (inr (inl l)) = absurd (differ (get_or xs i 0) (get_or xs j 0) (up i j 0 l b.0) a.1 b.1)
    by (inr (inr l)) = absurd (differ (get_or xs j 0) (get_or xs i 0) (up j i 0 l a.0) b.1 a.1)

-- at one place of a list whose elements differ
pub different_at : (xs : List ℕ) → AllPairs (λ t u. t ≢ u) xs → (i j : ℕ) → i < length xs → j < length xs → get_or xs i 0 ≡ get_or xs j 0 → i ≡ j
different_at xs all i j h l e = by (cases_order i j)
  where
    by : (i ≡ j) ⊎ ((i < j) ⊎ (j < i)) → i ≡ j
    by (inl s) = s
    by (inr (inl s)) = absurd (all i j 0 s l e)
    by (inr (inr s)) = absurd (all j i 0 s h (sym e))
