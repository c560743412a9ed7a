-- Readings row by row.
use Rattle.std.proofs.Common.{◌≡◌, ◌≢◌, ℕ, zero, suc, ◌<◌, ◌+◌, ◌++◌, ◌∷◌, All, Bool, true, false, not, Some, List, [], length, get_or, set, take, drop, refl, sym, ap, ◌∙◌, subst, arith, slice_get, ◌||◌, ◌&&◌, map}
use native.Mathlib.Decide.{ℕ_discrete}
use mathlib.Core.Bool.{beq}
use Rattle.diag_evidence.proofs.Vocabulary.{list_any, list_all, range_with_len, false≢true, gets, All-map, Pins}
use Rattle.std.proofs.lemmas.List.Folds.{list_any_more, list_any_at, list_any-append, list_all_more, list_all_at, list_all-append}
use Rattle.std.proofs.lemmas.List.{append-nil, take_all, length-map, length-replicate, length-set, get_or-map}
use Rattle.std.proofs.lemmas.List.FromFn.{length-range_with_len, length-map-range_with_len, map-range_with_len_more, get_or-range_with_len}
use Rattle.std.proofs.Math.ListN.{drop_of_length-le}
use Rattle.diag_evidence.specs.Looks.{differ, look_drives, none_driven, one_driven, parts}
use Rattle.diag_evidence.proofs.Found.{IsSome_of, some_of}

-- what a bit of a row is
pub bit_of : (row : Pins) (k : ℕ) (b : Bool) → slice_get row k ≡ Some b → get_or row k true ≡ b
bit_of row k b at = grind (arith, gets, at)

pub differ_by : (a b : Bool) → differ a b ≡ not (beq a b)
differ_by true true = refl
differ_by true false = refl
differ_by false true = refl
differ_by false false = refl

pub not_not : (a : Bool) → not (not a) ≡ a
not_not true = refl
not_not false = refl

pub differ_so : (a b : Bool) → differ a b ≡ true → a ≢ b
differ_so true true e = absurd (false≢true e)
differ_so true false e = λ s. cc
differ_so false true e = λ s. cc
differ_so false false e = absurd (false≢true e)

module _ {A : Type 0} (rows : List A) (k : ℕ) (row : A) (below : k < length rows) (at : row ≡ get_or rows k row) where
  -- one of a list shows it
  pub shown_at : (p : A → Bool) → p row ≡ true → list_any p rows ≡ true
  shown_at p is = list_any_at p rows k row below (ap p (sym at) ∙ is)

  -- .. or doesn't
  pub not_yet : (p : A → Bool) → list_any p (take k rows) ≡ false → p row ≡ false → list_any p (take (k + 1) rows) ≡ false
  not_yet p before no_ = list_any_more p rows k row below ∙ ap (λ t. t || p (get_or rows k row)) before ∙ ap p (sym at) ∙ no_

  -- all of a list do so far, or one doesn't
  pub all_yet : (p : A → Bool) → list_all p (take k rows) ≡ true → p row ≡ true → list_all p (take (k + 1) rows) ≡ true
  all_yet p before is = list_all_more p rows k row below ∙ ap (λ t. t && p (get_or rows k row)) before ∙ ap p (sym at) ∙ is

  pub not_all : (p : A → Bool) → p row ≡ false → list_all p rows ≡ false
  not_all p is = list_all_at p rows k row below (ap p (sym at) ∙ is)

-- numbers one after the other
pub any_number : (q : ℕ → Bool) (k : ℕ) → list_any q (range_with_len 0 (k + 1)) ≡ (list_any q (range_with_len 0 k) || q k)
any_number q k =
    ap (list_any q) (one_longer k) ∙ list_any-append q (range_with_len 0 k) (k ∷ []) ∙ ap (λ t. list_any q (range_with_len 0 k) || t) (last (q k))
  where
    same : (xs : List ℕ) → map (λ n. n) xs ≡ xs
    same [] = refl
    same (x ∷ xs) = ap (λ ys. x ∷ ys) (same xs)

    one_longer : (k : ℕ) → range_with_len 0 (k + 1) ≡ range_with_len 0 k ++ k ∷ []
    one_longer k = sym (same (range_with_len 0 (k + 1))) ∙ map-range_with_len_more (λ n. n) 0 k k (omega arith) ∙ ap (λ ys. ys ++ k ∷ []) (same (range_with_len 0 k))

    last : (b : Bool) → (b || false) ≡ b
    last true = refl
    last false = refl

pub number_not_yet : (q : ℕ → Bool) (k : ℕ) → list_any q (range_with_len 0 k) ≡ false → q k ≡ false → list_any q (range_with_len 0 (k + 1)) ≡ false
number_not_yet q k before no_ = any_number q k ∙ ap (λ t. t || q k) before ∙ no_

pub number_shown : (q : ℕ → Bool) (n k : ℕ) → k < n → q k ≡ true → list_any q (range_with_len 0 n) ≡ true
number_shown q n k below is = let e = length-range_with_len 0 n in list_any_at q (range_with_len 0 n) k 0 (omega (arith, below, e)) (ap q (get_or-range_with_len 0 n k 0 below ∙ (let e : 0 + k ≡ k = omega arith in e)) ∙ is)

-- a number of which a test holds
pub number_of_any : (q : ℕ → Bool) (n : ℕ) → list_any q (range_with_len 0 n) ≡ true → (k : ℕ) × (k < n) × (q k ≡ true)
number_of_any q n is =
    let s = some_of q (range_with_len 0 n) is in
    let e = length-range_with_len 0 n in
    let l = s.below in
    let below : s.place < n = omega (arith, e, l) in
    let at : get_or (range_with_len 0 n) s.place 0 ≡ s.place = get_or-range_with_len 0 n s.place 0 below ∙ (let z : 0 + s.place ≡ s.place = omega arith in z) in
    (s.place, below, sym (ap q at) ∙ s.holds 0)

-- .. of all, one after the other
pub every_number : (q : ℕ → Bool) (k : ℕ) → list_all q (range_with_len 0 (k + 1)) ≡ (list_all q (range_with_len 0 k) && q k)
every_number q k = ap (list_all q) (one_longer k) ∙ list_all-append q (range_with_len 0 k) (k ∷ []) ∙ ap (λ t. list_all q (range_with_len 0 k) && t) (last (q k))
  where
    same : (xs : List ℕ) → map (λ n. n) xs ≡ xs
    same [] = refl
    same (x ∷ xs) = ap (λ ys. x ∷ ys) (same xs)

    one_longer : (k : ℕ) → range_with_len 0 (k + 1) ≡ range_with_len 0 k ++ k ∷ []
    one_longer k = sym (same (range_with_len 0 (k + 1))) ∙ map-range_with_len_more (λ n. n) 0 k k (omega arith) ∙ ap (λ ys. ys ++ k ∷ []) (same (range_with_len 0 k))

    last : (b : Bool) → (b && true) ≡ b
    last true = refl
    last false = refl

pub every_yet : (q : ℕ → Bool) (k : ℕ) → list_all q (range_with_len 0 k) ≡ true → q k ≡ true → list_all q (range_with_len 0 (k + 1)) ≡ true
every_yet q k before is = every_number q k ∙ ap (λ t. t && q k) before ∙ is

pub not_every : (q : ℕ → Bool) (n k : ℕ) → k < n → q k ≡ false → list_all q (range_with_len 0 n) ≡ false
not_every q n k below no_ = let e = length-range_with_len 0 n in list_all_at q (range_with_len 0 n) k 0 (omega (arith, below, e)) (ap q (get_or-range_with_len 0 n k 0 below ∙ (let z : 0 + k ≡ k = omega arith in z)) ∙ no_)

pub of_every : (q : ℕ → Bool) (n k : ℕ) → list_all q (range_with_len 0 n) ≡ true → k < n → q k ≡ true
of_every q n k all below = by (q k) refl
  where
    by : (t : Bool) → q k ≡ t → q k ≡ true
    by true e = e
    by false e = absurd (false≢true (sym (not_every q n k below e) ∙ all))

-- what two bits of a row are to each other
pub differ_at : (row : Pins) (a b : ℕ) (x y : Bool) → slice_get row a ≡ Some x → slice_get row b ≡ Some y → differ (get_or row a true) (get_or row b true) ≡ not (beq x y)
differ_at row a b x y p q = ap (λ t. differ t (get_or row b true)) (bit_of row a x p) ∙ ap (differ x) (bit_of row b y q) ∙ differ_by x y

-- .. and one of them to a bit
pub same_at : (row : Pins) (a : ℕ) (x y : Bool) → slice_get row a ≡ Some x → not (differ (get_or row a true) y) ≡ beq x y
same_at row a x y p = ap not (ap (λ t. differ t y) (bit_of row a x p) ∙ differ_by x y) ∙ not_not (beq x y)

-- rows that were passed on and came back as many
pub whole_again : {A : Type 0} (n : ℕ) (new old : List A) → length new ≡ length old → n ≡ length old → take n (new ++ drop (length new) old) ≡ new
whole_again n new old same e =
    let none : drop (length new) old ≡ [] = drop_of_length-le old (omega (arith, same)) in
    ap (λ t. take n (new ++ t)) none ∙ ap (take n) (append-nil new) ∙ take_all n new (omega (arith, same, e))

-- rows that are as many and as long as they were
pub as_many : (old new : List Pins) → map length new ≡ map length old → length new ≡ length old
as_many old new same = sym (length-map new length) ∙ ap length same ∙ length-map old length

pub as_wide : (n : ℕ) (old new : List Pins) → map length new ≡ map length old → All (λ row. length row ≡ n) old → All (λ row. length row ≡ n) new
as_wide n old new same each k d below =
    let many = as_many old new same in
    sym (get_or-map length new k d 0 below) ∙ ap (λ ls. get_or ls k 0) same ∙ get_or-map length old k d 0 (omega (arith, below, many)) ∙ each k d (omega (arith, below, many))

-- the drives of a look are one more than there are pins, each for all of them
pub drives_count : (n : ℕ) → length (look_drives n) ≡ n + 1
drives_count n = let e = length-map-range_with_len (one_driven n) 0 n in omega (arith, e)

pub drives_wide : (n : ℕ) → All (λ row. length row ≡ n) (look_drives n)
drives_wide n zero d below = length-replicate n true
drives_wide n (suc k) d below = All-map (λ row. length row ≡ n) (one_driven n) (range_with_len 0 n) (λ i e lt. length-set (none_driven n) (get_or (range_with_len 0 n) i e) false ∙ length-replicate n true) k d (omega (arith, below))

-- what a pin doesn't do
pub and_not : (a b c : Bool) → a ≡ false → (a && (b && c)) ≡ false
and_not a b c e = ap (λ t. t && (b && c)) e

pub and_neither : (a b c : Bool) → b ≡ false → (a && (b && c)) ≡ false
and_neither true b c e = ap (λ t. t && c) e
and_neither false b c e = refl

pub and_last : (a b c : Bool) → c ≡ false → (a && (b && c)) ≡ false
and_last true true c e = e
and_last true false c e = refl
and_last false b c e = refl

pub and_all : (a b c : Bool) → a ≡ true → b ≡ true → c ≡ true → (a && (b && c)) ≡ true
and_all a b c p q r = rw (p, q) r

pub not_at_first : (a b : Bool) → a ≡ false → (a && b) ≡ false
not_at_first a b e = ap (λ t. t && b) e

pub not_at_second : (a b : Bool) → b ≡ false → (a && b) ≡ false
not_at_second true b e = e
not_at_second false b e = refl

pub all_three : (a b : Bool) → a ≡ true → b ≡ true → (a && b) ≡ true
all_three a b p q = rw p q

differ_self : (b : Bool) → differ b b ≡ false
differ_self true = refl
differ_self false = refl

-- no pin parts from itself
pub parts_self : (rows : List Pins) (a : ℕ) → parts rows a a ≡ false
parts_self [] a = refl
parts_self (row ∷ rows) a = ap (λ b. b || parts rows a a) (differ_self (get_or row a true)) ∙ parts_self rows a

-- one of two, and neither
pub or_first : (a b : Bool) → a ≡ true → (a || b) ≡ true
or_first a b e = ap (λ t. t || b) e

pub or_second : (a b : Bool) → b ≡ true → (a || b) ≡ true
or_second true b e = refl
or_second false b e = e

pub or_neither : (a b : Bool) → a ≡ false → b ≡ false → (a || b) ≡ false
or_neither a b e f = ap (λ t. t || b) e ∙ f

-- what is left of three, and of five
pub and_rest : (a b c : Bool) → a ≡ true → b ≡ true → (a && (b && c)) ≡ c
and_rest a b c p q = rw (p, q) refl

-- one number more
pub below_next : (P : ℕ → Type 0) (k : ℕ) → ((u : ℕ) → u < k → P u) → P k → (u : ℕ) → u < k + 1 → P u
below_next P k before here u below = by (ℕ_discrete k u)
  where
    by : Dec (k ≡ u) → P u
    by (yes e) = subst P e here
    by (no n) = before u (omega (arith, below, n))
