-- Rows of bits that stand one behind the other.
use Rattle.std.proofs.Common.{◌≡◌, ℕ, zero, suc, ◌+◌, ◌-◌, ◌*◌, ◌<◌, ◌≤◌, Bool, List, [], ◌∷◌, ◌++◌, length, map, flat_map, take, drop, get_or, arith, refl, sym, ap, subst, ◌∙◌}
use Rattle.run_image.proofs.Vocabulary.{AllByRecursion, take-append_seam, drop-append_seam, Pins, rows_in}
use Rattle.std.proofs.Math.Nat.{suc-mul, zero-mul, mul-le-mul_right}
use Rattle.std.proofs.lemmas.List.{take-append-le, drop-append-le, take-append-drop, take_all, length-take-le, length-drop, drop-drop}

-- plain numbers
behind-wide : (a w len : ℕ) → len ≡ a + w → w ≤ len
behind-wide a w len is = omega (arith, is)

behind-few : (a w len few : ℕ) → len ≡ a + w → few ≡ len - w → few ≡ a
behind-few a w len few is less = omega (arith, is, less)

front-few : (a w len : ℕ) → a + w ≤ len → a ≤ len
front-few a w len le = omega (arith, le)

turned : (a w : ℕ) → w + a ≡ a + w
turned a w = omega arith

-- so many rows take as many times as many bits
next-row : (n w from : ℕ) → from ≡ n * w → from + w ≡ suc n * w
next-row n w from is = ap (λ (k : ℕ). k + w) is ∙ sym (suc-mul n w)

one-fits : (n k w : ℕ) → k < n → k * w + w ≤ n * w
one-fits n k w lt =
    let le : suc k ≤ n = omega (arith, lt) in
    subst (λ (t : ℕ). t ≤ n * w) (suc-mul k w) (mul-le-mul_right w le)

-- where rows begin and end among the bits of so many
pub row-fits : (n k w from size : ℕ) → k < n → from ≡ k * w → size ≡ n * w → from + w ≤ size
row-fits n k w from size lt is all =
    subst (λ (t : ℕ). t + w ≤ size) (sym is) (subst (λ (t : ℕ). k * w + w ≤ t) (sym all) (one-fits n k w lt))

pub rows-fit : (n k w size : ℕ) → n ≤ k → size ≡ k * w → n * w ≤ size
rows-fit n k w size le all = subst (λ (t : ℕ). n * w ≤ t) (sym all) (mul-le-mul_right w le)

pub next-from : (k w from end : ℕ) → from ≡ k * w → end ≡ from + w → end ≡ (k + 1) * w
next-from k w from end is ends =
    let one : suc k ≡ k + 1 = omega arith in
    ends ∙ (next-row k w from is ∙ ap (λ (n : ℕ). n * w) one)

pub rows-count : (n w : ℕ) (bits : List Bool) → length (rows_in n w bits) ≡ n
rows-count zero w bits = refl
rows-count (suc n) w bits = let more = rows-count n w (drop w bits) in omega (arith, more)

-- bits behind them say nothing
rows-front : (n w : ℕ) (xs ys : List Bool) → length xs ≡ n * w → rows_in n w (xs ++ ys) ≡ rows_in n w xs
rows-front zero w xs ys is = refl
rows-front (suc n) w xs ys is =
    let all : length xs ≡ n * w + w = is ∙ suc-mul n w in
    let wide : w ≤ length xs = behind-wide (n * w) w (length xs) all in
    let few : length (drop w xs) ≡ n * w = behind-few (n * w) w (length xs) (length (drop w xs)) all (length-drop w xs) in
    ap (λ (t : List Bool). t ∷ rows_in n w (drop w (xs ++ ys))) (take-append-le w xs ys wide)
    ∙ ap (λ (rs : List (List Bool)). take w xs ∷ rs) (ap (rows_in n w) (drop-append-le w xs ys wide) ∙ rows-front n w (drop w xs) ys few)

pub rows-take : (n w : ℕ) (bits : List Bool) → n * w ≤ length bits → rows_in n w (take (n * w) bits) ≡ rows_in n w bits
rows-take n w bits le =
    sym (rows-front n w (take (n * w) bits) (drop (n * w) bits) (length-take-le (n * w) bits le)) ∙ ap (rows_in n w) (take-append-drop (n * w) bits)

-- one more
no-bits : (xs : List Bool) → length xs ≡ 0 → xs ≡ []
no-bits [] none = refl
no-bits (x ∷ xs) none = absurd (let never : ⊥ = omega (arith, none) in never)

rows-more : (n w : ℕ) (xs row : List Bool) → length xs ≡ n * w → length row ≡ w → rows_in (suc n) w (xs ++ row) ≡ rows_in n w xs ++ row ∷ []
rows-more zero w xs row is wide =
    let none = no-bits xs (is ∙ zero-mul w) in
    let few : length row ≤ w = omega (arith, wide) in
    ap (λ (t : List Bool). take w (t ++ row) ∷ []) none ∙ ap (λ (t : List Bool). t ∷ []) (take_all w row few)
rows-more (suc n) w xs row is wide =
    let all : length xs ≡ n * w + w = is ∙ suc-mul n w in
    let le : w ≤ length xs = behind-wide (n * w) w (length xs) all in
    let few : length (drop w xs) ≡ n * w = behind-few (n * w) w (length xs) (length (drop w xs)) all (length-drop w xs) in
    ap (λ (t : List Bool). t ∷ rows_in (suc n) w (drop w (xs ++ row))) (take-append-le w xs row le)
    ∙ ap (λ (rs : List (List Bool)). take w xs ∷ rs) (ap (rows_in (suc n) w) (drop-append-le w xs row le) ∙ rows-more n w (drop w xs) row few wide)

pub rows-put : (n w from : ℕ) (old new bits : List Bool) → from ≡ n * w → length bits ≡ w → from + w ≤ length old → length new ≡ length old → take (from + w) new ≡ take from old ++ bits → rows_in (suc n) w new ≡ rows_in n w old ++ bits ∷ []
rows-put n w from old new bits is wide room same put =
    let end : from + w ≡ suc n * w = next-row n w from is in
    let within : suc n * w ≤ length new = subst (λ (t : ℕ). t ≤ length new) end (subst (λ (t : ℕ). from + w ≤ t) (sym same) room) in
    let front : from ≤ length old = front-few from w (length old) room in
    let before : n * w ≤ length old = subst (λ (t : ℕ). t ≤ length old) is front in
    let few : length (take from old) ≡ n * w = length-take-le from old front ∙ is in
    sym (rows-take (suc n) w new within)
    ∙ (ap (λ (k : ℕ). rows_in (suc n) w (take k new)) (sym end)
    ∙ (ap (rows_in (suc n) w) put
    ∙ (rows-more n w (take from old) bits few wide
    ∙ ap (λ (rs : List (List Bool)). rs ++ bits ∷ []) (ap (λ (k : ℕ). rows_in n w (take k old)) is ∙ rows-take n w old before))))

-- each has its bits
wide-front : (a w s len : ℕ) → s ≡ a + w → s ≤ len → w ≤ len
wide-front a w s len is le = omega (arith, is, le)

wide-left : (a w s len left : ℕ) → s ≡ a + w → s ≤ len → left ≡ len - w → a ≤ left
wide-left a w s len left is le less = omega (arith, is, le, less)

pub rows-wide : (n w : ℕ) (bits : List Bool) → n * w ≤ length bits → AllByRecursion (λ (r : List Bool). length r ≡ w) (rows_in n w bits)
rows-wide zero w bits le = tt
rows-wide (suc n) w bits le = (
  length-take-le w bits (wide-front (n * w) w (suc n * w) (length bits) (suc-mul n w) le),
  rows-wide n w (drop w bits) (wide-left (n * w) w (suc n * w) (length bits) (length (drop w bits)) (suc-mul n w) le (length-drop w bits)),
)

-- each of them
pub row-in : (n w k : ℕ) (bits : List Bool) → k < n → get_or (rows_in n w bits) k [] ≡ take w (drop (k * w) bits)
row-in zero w k bits lt = absurd (let never : ⊥ = omega (arith, lt) in never)
row-in (suc n) w zero bits lt = ap (λ (m : ℕ). take w (drop m bits)) (sym (zero-mul w))
row-in (suc n) w (suc k) bits lt =
    let place : w + k * w ≡ suc k * w = turned (k * w) w ∙ sym (suc-mul k w) in
    row-in n w k (drop w bits) (omega (arith, lt)) ∙ ap (take w) (drop-drop (k * w) w bits ∙ ap (λ (m : ℕ). drop m bits) place)

-- rows of one width, one behind the other
pub rows-flat : (f : Pins → List Bool) (w : ℕ) → ((x : Pins) → length (f x) ≡ w) → (xs : List Pins) → rows_in (length xs) w (flat_map f xs) ≡ map f xs
rows-flat f w wide [] = refl
rows-flat f w wide (x ∷ xs) =
    let rest : List Bool = flat_map f xs in
    let front : take w (f x ++ rest) ≡ f x = ap (λ (k : ℕ). take k (f x ++ rest)) (sym (wide x)) ∙ take-append_seam (f x) rest in
    let behind : drop w (f x ++ rest) ≡ rest = ap (λ (k : ℕ). drop k (f x ++ rest)) (sym (wide x)) ∙ drop-append_seam (f x) rest in
    ap (λ (t : List Bool). t ∷ rows_in (length xs) w (drop w (f x ++ rest))) front
    ∙ ap (λ (rs : List (List Bool)). f x ∷ rs) (ap (rows_in (length xs) w) behind ∙ rows-flat f w wide xs)
