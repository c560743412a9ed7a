-- What is chosen among cells pin by pin.
use Rattle.std.proofs.Common.{◌≡◌, ℕ, zero, suc, ◌+◌, ◌-◌, ◌*◌, ◌^◌, ◌<◌, ◌≤◌, ◌&&◌, ◌||◌, Bool, true, false, List, [], ◌∷◌, map, length, drop, get_or, zero-add, refl, sym, ap, ◌∙◌, arith, not, if◌then◌else◌}
use Rattle.map_network.proofs.Vocabulary.{range_with_len, drop_more, number_of}
use native.Mathlib.Numerals.{unary_clauses}

pub sizes_are : (n d : ℕ) → n ≤ 6 → get_or (1 ∷ 2 ∷ 4 ∷ 8 ∷ 16 ∷ 32 ∷ 64 ∷ []) n d ≡ 2 ^ n
sizes_are zero d h = refl
sizes_are (suc zero) d h = refl
sizes_are (suc (suc zero)) d h = refl
sizes_are (suc (suc (suc zero))) d h = refl
sizes_are (suc (suc (suc (suc zero)))) d h = refl
sizes_are (suc (suc (suc (suc (suc zero))))) d h = refl
sizes_are (suc (suc (suc (suc (suc (suc zero)))))) d h = refl
sizes_are (suc (suc (suc (suc (suc (suc (suc n))))))) d h = absurd (omega arith)

pub size_within : (n : ℕ) → n ≤ 6 → 2 ^ n ≤ 64
size_within zero h = omega arith
size_within (suc zero) h = omega arith
size_within (suc (suc zero)) h = omega arith
size_within (suc (suc (suc zero))) h = omega arith
size_within (suc (suc (suc (suc zero)))) h = omega arith
size_within (suc (suc (suc (suc (suc zero))))) h = omega arith
size_within (suc (suc (suc (suc (suc (suc zero)))))) h = omega arith
size_within (suc (suc (suc (suc (suc (suc (suc n))))))) h = absurd (omega arith)

power_more : (n : ℕ) → 2 ^ suc n ≡ 2 * 2 ^ n
power_more n = simp unary_clauses (omega arith)

-- one pin fewer has half the addresses
pub half_size : (n k size : ℕ) → k < n → size ≡ 2 ^ (n - k) → size ≡ 2 * 2 ^ (n - (k + 1))
half_size n k size lk e = let at : n - k ≡ suc (n - (k + 1)) = omega arith in e ∙ ap (λ m. 2 ^ m) at ∙ power_more (n - (k + 1))

pub choice_is : (a b c : Bool) → ((b && not a) || (c && a)) ≡ (if a then c else b)
choice_is true true true = refl
choice_is true true false = refl
choice_is true false true = refl
choice_is true false false = refl
choice_is false true true = refl
choice_is false true false = refl
choice_is false false true = refl
choice_is false false false = refl

-- the part at a number, after its lowest bit is chosen
pub part_kept : (bits : List Bool) (k : ℕ) (part : ℕ → Bool) (b cell : Bool) → k < length bits → b ≡ get_or bits k true → part (number_of (drop k bits)) ≡ cell
    → (if b then part (2 * number_of (drop (k + 1) bits) + 1) else part (2 * number_of (drop (k + 1) bits))) ≡ cell
part_kept bits k part b cell lk e h =
    ap (λ x. if x then part (2 * rest + 1) else part (2 * rest)) e
    ∙ by (get_or bits k true)
    ∙ ap (λ bs. part (number_of bs)) (sym (drop_more bits k true lk))
    ∙ h
  where
    rest : ℕ
    rest = number_of (drop (k + 1) bits)

    by : (x : Bool) → (if x then part (2 * rest + 1) else part (2 * rest)) ≡ part ((if x then 1 else 0) + 2 * rest)
    by true = ap part (omega arith)
    by false = ap part (omega arith)

abbrev one : Bool → ℕ
one b = if b then 1 else 0

-- bits beyond the list are 1
pub with_ones : (bits : List Bool) → length bits ≤ 6 → 64 - 2 ^ length bits + number_of bits ≡ number_of (map (λ k. get_or bits k true) (range_with_len 0 6))
with_ones [] h = refl
with_ones (a ∷ []) h = by (one a)
  where
    by : (p : ℕ) → 62 + (p + 2 * 0) ≡ p + 2 * 31
    by p = omega arith
with_ones (a ∷ b ∷ []) h = by (one a) (one b)
  where
    by : (p q : ℕ) → 60 + (p + 2 * (q + 2 * 0)) ≡ p + 2 * (q + 2 * 15)
    by p q = omega arith
with_ones (a ∷ b ∷ c ∷ []) h = by (one a) (one b) (one c)
  where
    by : (p q r : ℕ) → 56 + (p + 2 * (q + 2 * (r + 2 * 0))) ≡ p + 2 * (q + 2 * (r + 2 * 7))
    by p q r = omega arith
with_ones (a ∷ b ∷ c ∷ d ∷ []) h = by (one a) (one b) (one c) (one d)
  where
    by : (p q r s : ℕ) → 48 + (p + 2 * (q + 2 * (r + 2 * (s + 2 * 0)))) ≡ p + 2 * (q + 2 * (r + 2 * (s + 2 * 3)))
    by p q r s = omega arith
with_ones (a ∷ b ∷ c ∷ d ∷ e ∷ []) h = by (one a) (one b) (one c) (one d) (one e)
  where
    by : (p q r s t : ℕ) → 32 + (p + 2 * (q + 2 * (r + 2 * (s + 2 * (t + 2 * 0))))) ≡ p + 2 * (q + 2 * (r + 2 * (s + 2 * (t + 2 * 1))))
    by p q r s t = omega arith
with_ones (a ∷ b ∷ c ∷ d ∷ e ∷ f ∷ []) h = zero-add (number_of (a ∷ b ∷ c ∷ d ∷ e ∷ f ∷ []))
with_ones (a ∷ b ∷ c ∷ d ∷ e ∷ f ∷ g ∷ bits) h = absurd (omega arith)
