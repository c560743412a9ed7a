-- Bits that are repeated for each copy, and the halves of what two copies read.
use Rattle.std.proofs.Common.{◌≡◌, ◌⊎◌, ◌+◌, ◌++◌, ◌↔◌, ◌∙◌, ℕ, Bool, true, false, IsTrue, List, [], ◌∷◌, map, length, take, drop, get_or, refl, sym, ap, inl, inr, arith, length-append}
use Rattle.run_image.proofs.Vocabulary.{AllByRecursion, share, times, repeated, all_repeated, AreShared, IsApart, Copies, One, Two}
use Rattle.std.proofs.lemmas.List.{map-append, length-map, take-append-drop, length-take-le, length-drop}

pub repeated-cons : (c : Copies) (row : List Bool) (rows : List (List Bool)) → all_repeated c (row ∷ rows) ≡ repeated c row ∷ all_repeated c rows
repeated-cons One row rows = refl
repeated-cons Two row rows = refl

pub repeated-both : (c : Copies) (rows more : List (List Bool)) → all_repeated c (rows ++ more) ≡ all_repeated c rows ++ all_repeated c more
repeated-both One rows more = refl
repeated-both Two rows more = map-append (λ (r : List Bool). r ++ r) rows more

pub repeated-map : (c : Copies) (rows : List (List Bool)) → map (repeated c) rows ≡ all_repeated c rows
repeated-map One [] = refl
repeated-map One (row ∷ rows) = ap (λ (rs : List (List Bool)). row ∷ rs) (repeated-map One rows)
repeated-map Two [] = refl
repeated-map Two (row ∷ rows) = ap (λ (rs : List (List Bool)). (row ++ row) ∷ rs) (repeated-map Two rows)

pub repeated-count : (c : Copies) (rows : List (List Bool)) → length (all_repeated c rows) ≡ length rows
repeated-count One rows = refl
repeated-count Two rows = length-map rows (λ (r : List Bool). r ++ r)

pub repeated-none : (c : Copies) → all_repeated c [] ≡ []
repeated-none One = refl
repeated-none Two = refl

pub repeated-long : (c : Copies) (bits : List Bool) → length (repeated c bits) ≡ times c (length bits)
repeated-long One bits = refl
repeated-long Two bits = length-append bits bits

-- half of twice as many
pub half-of : (n k : ℕ) → k ≡ n + n → share Two k ≡ n
half-of n k is = omega (arith, is)

-- ---- halves

pub halved : (n : ℕ) (all bits : List Bool) (same : Bool) → length all ≡ n + n → bits ≡ take n all → IsTrue same ↔ (bits ≡ drop n all) → AreShared Two same all bits
halved n all bits true size front same =
    sym (take-append-drop n all) ∙ (ap (λ (t : List Bool). t ++ drop n all) (sym front) ∙ ap (λ (t : List Bool). bits ++ t) (sym (same.0 refl)))
halved n all bits false size front same =
    let few = length-drop n all in
    let first : length (take n all) ≡ n = length-take-le n all (omega (arith, size)) in
    record {
      first = bits;
      second = drop n all;
      bits_are = sym (take-append-drop n all) ∙ ap (λ (t : List Bool). t ++ drop n all) (sym front);
      halves = ap length front ∙ omega (arith, few, first, size);
      differ = λ e. let no : false ≡ true = same.1 e in absurd (cc);
    }

-- ---- the first reading that differs

-- two bits, and two lists of them, are the same or not
same-bit : (a b : Bool) → (a ≡ b) ⊎ (a ≡ b → ⊥)
same-bit true true = inl refl
same-bit false false = inl refl
same-bit true false = inr (λ e. absurd (cc))
same-bit false true = inr (λ e. absurd (cc))

heads : (a b : Bool) (xs ys : List Bool) → a ∷ xs ≡ b ∷ ys → a ≡ b
heads a b xs ys e = ap (λ (l : List Bool). get_or l 0 a) e

tails : (a b : Bool) (xs ys : List Bool) → a ∷ xs ≡ b ∷ ys → xs ≡ ys
tails a b xs ys e = ap (λ (l : List Bool). drop 1 l) e

same-bits : (xs ys : List Bool) → (xs ≡ ys) ⊎ (xs ≡ ys → ⊥)
same-bits [] [] = inl refl
same-bits [] (y ∷ ys) = inr (λ e. let size : 0 ≡ length (y ∷ ys) = ap length e in omega (arith, size))
same-bits (x ∷ xs) [] = inr (λ e. let size : length (x ∷ xs) ≡ 0 = ap length e in omega (arith, size))
same-bits (x ∷ xs) (y ∷ ys) = by (same-bit x y) (same-bits xs ys)
  where
    by : (x ≡ y) ⊎ (x ≡ y → ⊥) → (xs ≡ ys) ⊎ (xs ≡ ys → ⊥) → (x ∷ xs ≡ y ∷ ys) ⊎ (x ∷ xs ≡ y ∷ ys → ⊥)
    by (inl e) (inl f) = inl (ap (λ (b : Bool). b ∷ xs) e ∙ ap (λ (l : List Bool). y ∷ l) f)
    by (inr other) more = inr (λ e. other (heads x y xs ys e))
    by (inl e) (inr other) = inr (λ f. other (tails x y xs ys f))

-- a reading of two copies: both have read this, or its halves differ
pub data Shared (c : Copies) (reading : List Bool) : Type 0 where
  alike : (row : List Bool) → reading ≡ repeated c row → Shared c reading
  apart : IsApart c reading → Shared c reading

halves-of : (n : ℕ) (reading : List Bool) → length reading ≡ n + n → Shared Two reading
halves-of n reading size = by (same-bits (take n reading) (drop n reading))
  where
    first : length (take n reading) ≡ n
    first = length-take-le n reading (omega (arith, size))

    whole : reading ≡ take n reading ++ drop n reading
    whole = sym (take-append-drop n reading)

    by : (take n reading ≡ drop n reading) ⊎ (take n reading ≡ drop n reading → ⊥) → Shared Two reading
    by (inl e) = alike (take n reading) (whole ∙ ap (λ (l : List Bool). take n reading ++ l) (sym e))
    by (inr other) = apart (record {
      first = take n reading;
      second = drop n reading;
      bits_are = whole;
      halves = (let second = length-drop n reading in omega (arith, first, second, size));
      differ = other;
    })

pub shared-of : (c : Copies) (n : ℕ) (reading : List Bool) → length reading ≡ times c n → Shared c reading
shared-of One n reading size = alike reading refl
shared-of Two n reading size = halves-of n reading size

-- readings: all copies have read the same, or up to one whose halves differ
pub data AllShared (c : Copies) (readings : List (List Bool)) : Type 0 where
  all_alike : (rows : List (List Bool)) → readings ≡ all_repeated c rows → AllShared c readings
  first_apart : (rows : List (List Bool)) (reading : List Bool) (behind : List (List Bool)) → readings ≡ all_repeated c rows ++ reading ∷ behind
      → IsApart c reading → AllShared c readings

pub all-shared : (c : Copies) (n : ℕ) (readings : List (List Bool)) → AllByRecursion (λ (r : List Bool). length r ≡ times c n) readings → AllShared c readings
all-shared c n [] wide = all_alike [] (sym (repeated-none c))
all-shared c n (r ∷ rs) wide = by (shared-of c n r wide.0) (all-shared c n rs wide.1)
  where
    by : Shared c r → AllShared c rs → AllShared c (r ∷ rs)
    by (apart is) more = first_apart [] r rs (ap (λ (t : List (List Bool)). t ++ r ∷ rs) (sym (repeated-none c))) is
    by (alike row is) (all_alike rows are) = all_alike (row ∷ rows) (ap (λ (b : List Bool). b ∷ rs) is ∙ (ap (λ (t : List (List Bool)). repeated c row ∷ t) are ∙ sym (repeated-cons c row rows)))
    by (alike row is) (first_apart rows reading behind are is_apart) =
        first_apart (row ∷ rows) reading behind
        (ap (λ (b : List Bool). b ∷ rs) is ∙ (ap (λ (t : List (List Bool)). repeated c row ∷ t) are ∙ ap (λ (t : List (List Bool)). t ++ reading ∷ behind) (sym (repeated-cons c row rows)))) is_apart
