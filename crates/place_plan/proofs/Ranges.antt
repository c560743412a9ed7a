-- The numbers below a count, in order.
use Rattle.std.proofs.Common.{◌≡◌, ℕ, ◌+◌, ◌<◌, Bool, true, false, cond, List, [], ◌∷◌, ◌++◌, get_or, refl, sym, ap, ◌∙◌, subst, arith}
use Rattle.place_plan.proofs.Vocabulary.{All, AllPairs, Contains, filter, range_with_len, map-id, filter-append}
use Rattle.std.proofs.lemmas.List.FromFn.{map-range_with_len_more, get_or-range_with_len, length-range_with_len}

pub range_push : (j : ℕ) → range_with_len 0 (j + 1) ≡ range_with_len 0 j ++ j ∷ []
range_push j = sym (map-id (range_with_len 0 (j + 1))) ∙ map-range_with_len_more (λ k. k) 0 j j (omega arith) ∙ ap (λ xs. xs ++ j ∷ []) (map-id (range_with_len 0 j))

pub filter_yes : (p : ℕ → Bool) (k : ℕ) → p k ≡ true → filter p (range_with_len 0 (k + 1)) ≡ filter p (range_with_len 0 k) ++ k ∷ []
filter_yes p k e = ap (filter p) (range_push k) ∙ filter-append p (range_with_len 0 k) (k ∷ []) ∙ ap (λ b. filter p (range_with_len 0 k) ++ cond b (k ∷ []) []) e

pub filter_not : (p : ℕ → Bool) (k : ℕ) → p k ≡ false → filter p (range_with_len 0 (k + 1)) ≡ filter p (range_with_len 0 k)
filter_not p k e = ap (filter p) (range_push k) ∙ filter-append p (range_with_len 0 k) (k ∷ []) ∙ ap (λ b. filter p (range_with_len 0 k) ++ cond b (k ∷ []) []) e ∙ append_nil (filter p (range_with_len 0 k))
  where
    append_nil : (xs : List ℕ) → xs ++ [] ≡ xs
    append_nil [] = refl
    append_nil (x ∷ xs) = ap (λ ys. x ∷ ys) (append_nil xs)

pub in_range : (n i : ℕ) → i < n → Contains (range_with_len 0 n) i
in_range n i h = (i, subst (λ k. i < k) (sym (length-range_with_len 0 n)) h, get_or-range_with_len 0 n i i h ∙ (let e : 0 + i ≡ i = omega arith in e))

pub range_below : (n i : ℕ) → Contains (range_with_len 0 n) i → i < n
range_below n i h =
    let l : h.0 < n = subst (λ k. h.0 < k) (length-range_with_len 0 n) h.1 in
    let e : i ≡ 0 + h.0 = sym h.2 ∙ get_or-range_with_len 0 n h.0 i l in
    omega arith

pub range_at : (n i d : ℕ) → i < n → get_or (range_with_len 0 n) i d ≡ i
range_at n i d h = get_or-range_with_len 0 n i d h ∙ (let e : 0 + i ≡ i = omega arith in e)

pub range_up : (n : ℕ) → AllPairs (λ a b. a < b) (range_with_len 0 n)
range_up n i j d lt l =
    let lj : j < n = subst (λ z. j < z) (length-range_with_len 0 n) l in
    let a : get_or (range_with_len 0 n) i d ≡ i = range_at n i d (omega arith) in
    let b : get_or (range_with_len 0 n) j d ≡ j = range_at n j d lj in
    omega arith

pub range_within : (n k : ℕ) → k < n → All (Contains (range_with_len 0 n)) (range_with_len 0 k ++ k ∷ [])
range_within n k h = subst (All (Contains (range_with_len 0 n))) (range_push k) (λ i d l.
    let li : i < k + 1 = subst (λ z. i < z) (length-range_with_len 0 (k + 1)) l in
    subst (Contains (range_with_len 0 n)) (sym (range_at (k + 1) i d li)) (in_range n i (omega arith)))

pub not_in_range : (k : ℕ) → ¬ Contains (range_with_len 0 k) k
not_in_range k has = let l : k < k = range_below k k has in omega arith

pub range_all : (n : ℕ) → All (λ k. k < n) (range_with_len 0 n)
range_all n i d l =
    let li : i < n = subst (λ z. i < z) (length-range_with_len 0 n) l in
    subst (λ z. z < n) (sym (range_at n i d li)) li
