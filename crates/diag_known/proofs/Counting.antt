-- How many numbers are so, and sets to which one is added.
use Rattle.std.proofs.Common.{◌≡◌, ◌≢◌, ◌⊎◌, ℕ, zero, suc, ◌+◌, ◌<◌, ◌≤◌, Bool, true, false, List, [], ◌∷◌, length, refl, sym, ap, ◌∙◌, subst, inl, inr, arith, slice_set, replicate, if◌then◌else◌}
use Rattle.diag_known.proofs.Vocabulary.{false≢true, sum_by-cons, has_number, size_of, how_many}
use Rattle.std.proofs.lemmas.List.{get_or-set_same, get_or-set_other, get_or-replicate, get_or_past, length-replicate}
use native.Mathlib.Decide.{dec_lt, ℕ_discrete}

bit_more : (a b : Bool) → (a ≡ true → b ≡ true) → (if a then 1 else 0) ≤ (if b then 1 else 0)
bit_more true true h = omega arith
bit_more true false h = absurd (false≢true (h refl))
bit_more false true h = omega arith
bit_more false false h = omega arith

bit_less : (a b : Bool) → a ≡ false → b ≡ true → (if a then 1 else 0) + 1 ≤ (if b then 1 else 0)
bit_less a b e f = rw (e, f) (omega arith)

bit_one : (a : Bool) → (if a then 1 else 0) ≤ 1
bit_one true = omega arith
bit_one false = omega arith

bit_either : (a b : Bool) → (a ≡ false → b ≡ true) → 1 ≤ (if a then 1 else 0) + (if b then 1 else 0)
bit_either true b h = omega arith
bit_either false true h = omega arith
bit_either false false h = absurd (false≢true (h refl))

pub many_all : (p : ℕ → Bool) (n : ℕ) → how_many p n ≤ n
many_all p zero = omega arith
many_all p (suc n) = let rest = many_all p n in let one = bit_one (p n) in omega (arith, rest, one)

pub many_more : (p q : ℕ → Bool) (n : ℕ) → ((x : ℕ) → x < n → p x ≡ true → q x ≡ true) → how_many p n ≤ how_many q n
many_more p q zero h = omega arith
many_more p q (suc n) h =
    let rest = many_more p q n (λ x less. h x (omega (arith, less))) in
    let one = bit_more (p n) (q n) (h n (omega arith)) in omega (arith, rest, one)

-- .. and one more
pub many_one : (p q : ℕ → Bool) (n i : ℕ) → i < n → p i ≡ false → q i ≡ true → ((x : ℕ) → x < n → p x ≡ true → q x ≡ true) → how_many p n + 1 ≤ how_many q n
many_one p q zero i less off on h = absurd (let no : ⊥ = omega (arith, less) in no)
many_one p q (suc n) i less off on h = by_place (ℕ_discrete i n) (λ low. many_one p q n i low off on (λ x under. h x (omega (arith, under))))
  where
    by_place : Dec (i ≡ n) → (i < n → how_many p n + 1 ≤ how_many q n) → how_many p (suc n) + 1 ≤ how_many q (suc n)
    by_place (yes e) below =
        let rest = many_more p q n (λ x low. h x (omega (arith, low))) in
        let one = bit_less (p n) (q n) (ap p (sym e) ∙ off) (ap q (sym e) ∙ on) in omega (arith, rest, one)
    by_place (no other) below =
        let rest = below (omega (arith, less, other)) in
        let one = bit_more (p n) (q n) (h n (omega arith)) in omega (arith, rest, one)

-- each number is so in one of two ways
pub many_either : (p q : ℕ → Bool) (n : ℕ) → ((x : ℕ) → x < n → p x ≡ false → q x ≡ true) → n ≤ how_many p n + how_many q n
many_either p q zero h = omega arith
many_either p q (suc n) h =
    let rest = many_either p q n (λ x less. h x (omega (arith, less))) in
    let one = bit_either (p n) (q n) (h n (omega arith)) in omega (arith, rest, one)

many_first : (p : ℕ → Bool) (n : ℕ) → how_many p (suc n) ≡ (if p zero then 1 else 0) + how_many (λ x. p (suc x)) n
many_first p zero = refl
many_first p (suc n) = let rest = many_first p n in omega (arith, rest)

pub many_size : (set : List Bool) → how_many (has_number set) (length set) ≡ size_of set
many_size [] = refl
many_size (b ∷ set) = many_first (has_number (b ∷ set)) (length set) ∙ ap (λ n. (if b then 1 else 0) + n) (many_size set) ∙ sym (sum_by-cons (λ (x : Bool). if x then 1 else 0) b set)

-- a set to which a number is added
pub number_within : (set : List Bool) (x : ℕ) → has_number set x ≡ true → x < length set
number_within set x on = by_place (dec_lt x (length set))
  where
    by_place : Dec (x < length set) → x < length set
    by_place (yes h) = h
    by_place (no h) = absurd (false≢true (sym (get_or_past set x false (omega (arith, h))) ∙ on))

pub set_has : (set : List Bool) (x : ℕ) → x < length set → has_number (slice_set set x true) x ≡ true
set_has set x within = get_or-set_same set x true false within

pub set_other : (set : List Bool) (x y : ℕ) → y ≢ x → has_number (slice_set set x true) y ≡ has_number set y
set_other set x y n = get_or-set_other set x y true false n

pub set_stays : (set : List Bool) (x y : ℕ) → has_number set y ≡ true → has_number (slice_set set x true) y ≡ true
set_stays set x y on = by_place (ℕ_discrete y x)
  where
    by_place : Dec (y ≡ x) → has_number (slice_set set x true) y ≡ true
    by_place (yes e) = ap (has_number (slice_set set x true)) e ∙ set_has set x (subst (λ z. z < length set) e (number_within set y on))
    by_place (no n) = set_other set x y n ∙ on

pub set_only : (set : List Bool) (x y : ℕ) → has_number (slice_set set x true) y ≡ true → (has_number set y ≡ true) ⊎ (x ≡ y)
set_only set x y on = by_place (ℕ_discrete y x)
  where
    by_place : Dec (y ≡ x) → (has_number set y ≡ true) ⊎ (x ≡ y)
    by_place (yes e) = inr (sym e)
    by_place (no n) = inl (sym (set_other set x y n) ∙ on)

pub set_more : (set : List Bool) (x n : ℕ) → how_many (has_number set) n ≤ how_many (has_number (slice_set set x true)) n
set_more set x n = many_more (has_number set) (has_number (slice_set set x true)) n (λ y less on. set_stays set x y on)

pub set_one : (set : List Bool) (x : ℕ) → x < length set → has_number set x ≡ false →
    how_many (has_number set) (length set) + 1 ≤ how_many (has_number (slice_set set x true)) (length set)
set_one set x within off = many_one (has_number set) (has_number (slice_set set x true)) (length set) x within off (set_has set x within) (λ y less on. set_stays set x y on)

-- the empty set has none
pub none_has : (n x : ℕ) → has_number (replicate n false) x ≡ true → ⊥
none_has n x on = by_place (dec_lt x n)
  where
    by_place : Dec (x < n) → ⊥
    by_place (yes h) = false≢true (sym (get_or-replicate n x false false h) ∙ on)
    by_place (no h) = false≢true (sym (get_or_past (replicate n false) x false (rw length-replicate (omega (arith, h)))) ∙ on)

-- no number is so in both ways
bit_both : (a b : Bool) → (a ≡ true → b ≡ true → ⊥) → (if a then 1 else 0) + (if b then 1 else 0) ≤ 1
bit_both true true h = absurd (h refl refl)
bit_both true false h = omega arith
bit_both false true h = omega arith
bit_both false false h = omega arith

pub many_both : (p q : ℕ → Bool) (n : ℕ) → ((x : ℕ) → x < n → p x ≡ true → q x ≡ true → ⊥) → how_many p n + how_many q n ≤ n
many_both p q zero h = omega arith
many_both p q (suc n) h =
    let rest = many_both p q n (λ x less. h x (omega (arith, less))) in
    let one = bit_both (p n) (q n) (h n (omega arith)) in omega (arith, rest, one)

-- of further numbers each is so at most
pub many_up : (p : ℕ → Bool) (n d : ℕ) → how_many p (n + d) ≤ how_many p n + d
many_up p n zero = let e : n + 0 ≡ n = omega arith in rw e (omega arith)
many_up p n (suc d) =
    let e : n + suc d ≡ suc (n + d) = omega arith in
    let rest = many_up p n d in
    let one = bit_one (p (n + d)) in rw e (omega (arith, rest, one))

-- all are so, or one isn't
pub many_so : (p : ℕ → Bool) (n : ℕ) → ((x : ℕ) → x < n → p x ≡ true) → how_many p n ≡ n
many_so p zero h = refl
many_so p (suc n) h = let rest = many_so p n (λ x less. h x (omega (arith, less))) in rw (h n (omega arith)) (omega (arith, rest))

pub many_less : (p : ℕ → Bool) (n x : ℕ) → x < n → p x ≡ false → how_many p n + 1 ≤ n
many_less p zero x less off = absurd (let no : ⊥ = omega (arith, less) in no)
many_less p (suc n) x less off = by_place (ℕ_discrete x n) (λ low. many_less p n x low off)
  where
    by_place : Dec (x ≡ n) → (x < n → how_many p n + 1 ≤ n) → how_many p (suc n) + 1 ≤ suc n
    by_place (yes e) below = let rest = many_all p n in let here = ap p (sym e) ∙ off in rw here (omega (arith, rest))
    by_place (no other) below = let rest = below (omega (arith, less, other)) in let one = bit_one (p n) in omega (arith, rest, one)

-- the same of each number
pub many_same : (p q : ℕ → Bool) (n : ℕ) → ((x : ℕ) → x < n → p x ≡ q x) → how_many p n ≡ how_many q n
many_same p q zero h = refl
many_same p q (suc n) h = rw (h n (omega arith), many_same p q n (λ x less. h x (omega (arith, less)))) refl

-- a set to which a number is added has one more at most, and none below that number
pub set_most : (set : List Bool) (x n : ℕ) → how_many (has_number (slice_set set x true)) n ≤ how_many (has_number set) n + 1
set_most set x zero = omega arith
set_most set x (suc n) = by_place (ℕ_discrete n x) (set_most set x n)
  where
    by_place : Dec (n ≡ x) → how_many (has_number (slice_set set x true)) n ≤ how_many (has_number set) n + 1 → how_many (has_number (slice_set set x true)) (suc n) ≤ how_many (has_number set) (suc n) + 1
    by_place (yes e) below =
        let rest = many_same (has_number (slice_set set x true)) (has_number set) n (λ y less. set_other set x y (λ s. let no : ⊥ = omega (arith, less, e, s) in no)) in
        let one = bit_one (has_number (slice_set set x true) n) in omega (arith, rest, one)
    by_place (no other) below = rw (set_other set x n other) (omega (arith, below))

pub set_below : (set : List Bool) (x n : ℕ) → n ≤ x → how_many (has_number (slice_set set x true)) n ≡ how_many (has_number set) n
set_below set x n low = many_same _ _ n (λ y less. set_other set x y (λ s. let no : ⊥ = omega (arith, less, low, s) in no))

pub many_long : (p : ℕ → Bool) (n d : ℕ) → how_many p n ≤ how_many p (n + d)
many_long p n zero = let e : n + 0 ≡ n = omega arith in rw e (omega arith)
many_long p n (suc d) = let e : n + suc d ≡ suc (n + d) = omega arith in let rest = many_long p n d in rw e (omega (arith, rest))
