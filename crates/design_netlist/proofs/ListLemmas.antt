-- Lists of numbers.
use Rattle.std.proofs.Common.{◌≡◌, ℕ, zero, suc, ◌<◌, ◌≤◌, ◌||◌, ◌⊎◌, Bool, true, false, List, [], ◌∷◌, refl, sym, ◌∙◌, arith, inl, inr, length, get_or}
use Rattle.design_netlist.proofs.Vocabulary.{list_any, Contains, eqb, cases_eq, eqb-true, get_or_default}
use Rattle.std.proofs.lemmas.Map.{Keys.IsDistinct-from_apart, Steps.length-le_from_distinct_below}

any_below : (n q : ℕ) (xs : List ℕ) → ((k : ℕ) → k < length xs → get_or xs k 0 < n) → list_any (eqb q) xs ≡ true → q < n
any_below n q [] h e = absurd cc
any_below n q (x ∷ xs) h e = by (eqb q x) refl e (λ g. any_below n q xs (λ k lk. h (suc k) (omega arith)) g)
  where
    by : (b : Bool) → eqb q x ≡ b → (b || list_any (eqb q) xs) ≡ true → (list_any (eqb q) xs ≡ true → q < n) → q < n
    by true f g later = let s : q ≡ x = eqb-true q x f in let l : x < n = h 0 (omega arith) in omega arith
    by false f g later = later g

pub not_equal : (a b : ℕ) → (a ≡ b → ⊥) → eqb a b ≡ false
not_equal a b h = by (eqb a b) refl
  where
    by : (c : Bool) → eqb a b ≡ c → c ≡ false
    by true e = absurd (h (eqb-true a b e))
    by false e = refl

-- different numbers below n are at most n
pub few_numbers : (n : ℕ) (xs : List ℕ) → ((k : ℕ) → k < length xs → get_or xs k 0 < n) → ((i j : ℕ) → i < j → j < length xs → get_or xs i 0 ≡ get_or xs j 0 → ⊥) → length xs ≤ n
few_numbers n xs below apart =
    length-le_from_distinct_below xs n
    (IsDistinct-from_apart eqb xs (λ i j e lt lj. not_equal (get_or xs i e) (get_or xs j e) (λ s. apart i j lt lj (sym (get_or_default xs i e 0 (omega arith)) ∙ s ∙ get_or_default xs j e 0 lj))))
    (λ q. any_below n q xs below)

-- two places of a number, the first of which is the head
at_head : (x : ℕ) (xs : List ℕ) → ((k : ℕ) → k < length xs → x ≡ get_or xs k 0 → ⊥) ⊎ ((k : ℕ) × (k < length xs) × (x ≡ get_or xs k 0))
at_head x [] = inl (λ k lk e. omega arith)
at_head x (y ∷ ys) = by (cases_eq x y) (at_head x ys)
  where
    by : (x ≡ y) ⊎ (x ≡ y → ⊥) → ((k : ℕ) → k < length ys → x ≡ get_or ys k 0 → ⊥) ⊎ ((k : ℕ) × (k < length ys) × (x ≡ get_or ys k 0)) → ((k : ℕ) → k < length (y ∷ ys) → x ≡ get_or (y ∷ ys) k 0 → ⊥) ⊎ ((k : ℕ) × (k < length (y ∷ ys)) × (x ≡ get_or (y ∷ ys) k 0))
    by (inl s) later = inr (0, omega arith, s)
    by (inr n) (inr found) = inr (suc found.0, omega (arith, found.1), found.2)
    by (inr n) (inl none) = inl none_here
      where
        none_here : (k : ℕ) → k < length (y ∷ ys) → x ≡ get_or (y ∷ ys) k 0 → ⊥
        none_here zero lk e = n e
        none_here (suc k) lk e = none k (omega arith) e

-- all numbers are different, or two are the same
pub apart_or : (xs : List ℕ) → ((i j : ℕ) → i < j → j < length xs → get_or xs i 0 ≡ get_or xs j 0 → ⊥) ⊎ ((i j : ℕ) × (i < j) × (j < length xs) × (get_or xs i 0 ≡ get_or xs j 0))
apart_or [] = inl (λ i j lt lj e. omega arith)
apart_or (x ∷ xs) = by (at_head x xs) (apart_or xs)
  where
    by : ((k : ℕ) → k < length xs → x ≡ get_or xs k 0 → ⊥) ⊎ ((k : ℕ) × (k < length xs) × (x ≡ get_or xs k 0)) → ((i j : ℕ) → i < j → j < length xs → get_or xs i 0 ≡ get_or xs j 0 → ⊥) ⊎ ((i j : ℕ) × (i < j) × (j < length xs) × (get_or xs i 0 ≡ get_or xs j 0)) → ((i j : ℕ) → i < j → j < length (x ∷ xs) → get_or (x ∷ xs) i 0 ≡ get_or (x ∷ xs) j 0 → ⊥) ⊎ ((i j : ℕ) × (i < j) × (j < length (x ∷ xs)) × (get_or (x ∷ xs) i 0 ≡ get_or (x ∷ xs) j 0))
    by (inr h) later = inr (0, suc h.0, omega arith, omega (arith, h.1), h.2)
    by (inl none) (inr h) = inr (suc h.0, suc h.1, omega (arith, h.2), omega (arith, h.3), h.4)
    by (inl none) (inl apart) = inl apart_here
      where
        apart_here : (i j : ℕ) → i < j → j < length (x ∷ xs) → get_or (x ∷ xs) i 0 ≡ get_or (x ∷ xs) j 0 → ⊥
        apart_here i zero lt lj e = omega arith
        apart_here zero (suc j) lt lj e = none j (omega arith) e
        apart_here (suc i) (suc j) lt lj e = apart i j (omega arith) (omega arith) e

-- whether a number stands in a list
pub stands_or : (xs : List ℕ) (x : ℕ) → Contains xs x ⊎ (Contains xs x → ⊥)
stands_or xs x = by (at_head x xs)
  where
    by : ((k : ℕ) → k < length xs → x ≡ get_or xs k 0 → ⊥) ⊎ ((k : ℕ) × (k < length xs) × (x ≡ get_or xs k 0)) → Contains xs x ⊎ (Contains xs x → ⊥)
    by (inr h) = inl (h.0, h.1, get_or_default xs h.0 x 0 h.1 ∙ sym h.2)
    by (inl none) = inr (λ c. none c.0 c.1 (sym c.2 ∙ get_or_default xs c.0 x 0 c.1))
