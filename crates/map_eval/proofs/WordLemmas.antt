-- Bits of words and addresses.
use Rattle.std.proofs.Common.{◌≡◌, ◌⊎◌, Bool, ℕ, zero, suc, ◌+◌, ◌*◌, ◌/◌, ◌%◌, ◌^◌, ◌<◌, ◌≤◌, ◌-◌, ◌==◌, ◌||◌, ◌&&◌, List, true, false, length, set, refl, sym, ap, ◌∙◌, inl, inr, arith, bit_and, bit_or, not, bit_xor}
use Rattle.map_eval.proofs.Vocabulary.{bit_at, and_le_l, xor_lt, pow_below, cases_eq, cases_lt, get_or-set_same, get_or-set_other}
use Rattle.map_eval.proofs.Vocabulary.{get_or_past, bit_at_xor, bit_at-pow_same, bit_at-pow_other, bit_at-lt, cell_at, flip, bit_of_cell}
use Rattle.map_eval.proofs.Vocabulary.{cell_or, cell_and, cell_not, cell_zero, two_bits, number_at, is_marked, differs, AreMarked}
use Rattle.map_eval.proofs.Vocabulary.{AreMarkedTo}

-- one word takes the place of another, from which it differs at one bit at most
module _ (marks : List ℕ) (t word : ℕ) (within : t < 64 * length marks) where
  row : t / 64 < length marks
  row = omega arith

  pub this_mark : is_marked (set marks (t / 64) word) t ≡ cell_at word (t % 64)
  this_mark = ap (λ w. cell_at w (t % 64)) (get_or-set_same marks (t / 64) word 0 row)

  pub other_mark : ((k : ℕ) → k < 64 → (k ≡ t % 64 → ⊥) → cell_at word k ≡ cell_at (number_at marks (t / 64)) k) → (j : ℕ) → (j ≡ t → ⊥) → is_marked (set marks (t / 64) word) j ≡ is_marked marks j
  other_mark others j differ =
      elim (cases_eq (j / 64) (t / 64)) [
        | inl one ↦
            (let place : j % 64 ≡ t % 64 → ⊥ = λ e. differ (omega (arith, e, one)) in
            ap (λ r. cell_at (number_at (set marks (t / 64) word) r) (j % 64)) one
            ∙ ap (λ w. cell_at w (j % 64)) (get_or-set_same marks (t / 64) word 0 row)
            ∙ others (j % 64) (omega arith) place
            ∙ ap (λ r. cell_at (number_at marks r) (j % 64)) (sym one))
        | inr apart ↦ ap (λ w. cell_at w (j % 64)) (get_or-set_other marks (t / 64) (j / 64) word 0 apart)
      ]

-- a bit that is shifted to its place

pub cell_pow : (k : ℕ) → cell_at (2 ^ k) k ≡ true
cell_pow k = ap (λ b. b == 1) (bit_at-pow_same k)

pub cell_pow_other : (k i : ℕ) → (i ≡ k → ⊥) → cell_at (2 ^ k) i ≡ false
cell_pow_other k i d = ap (λ b. b == 1) (bit_at-pow_other k i d)

zero_times : (m : ℕ) → 0 * m ≡ 0
zero_times m = omega arith

pub cell_times : (bit k : ℕ) → bit < 2 → cell_at (bit * 2 ^ k) k ≡ (bit == 1)
cell_times zero k lb = ap (λ m. cell_at m k) (zero_times (2 ^ k)) ∙ cell_zero k
cell_times (suc zero) k lb = ap (λ m. cell_at m k) (let e : 1 * 2 ^ k ≡ 2 ^ k = omega arith in e) ∙ cell_pow k
cell_times (suc (suc b)) k lb = absurd (omega arith)

pub cell_times_other : (bit k i : ℕ) → bit < 2 → (i ≡ k → ⊥) → cell_at (bit * 2 ^ k) i ≡ false
cell_times_other zero k i lb d = ap (λ m. cell_at m i) (zero_times (2 ^ k)) ∙ cell_zero i
cell_times_other (suc zero) k i lb d = ap (λ m. cell_at m i) (let e : 1 * 2 ^ k ≡ 2 ^ k = omega arith in e) ∙ cell_pow_other k i d
cell_times_other (suc (suc b)) k i lb d = absurd (omega arith)

pub or_no : (b : Bool) → (b || false) ≡ b
or_no true = refl
or_no false = refl

pub and_no : (b : Bool) → (b && false) ≡ false
and_no true = refl
and_no false = refl

pub and_yes : (b : Bool) → (b && true) ≡ b
and_yes true = refl
and_yes false = refl

-- addresses in which a bit is turned

flipped_bit : (x : ℕ) → x < 2 → ((x + 1) % 2 == 1) ≡ not (x == 1)
flipped_bit zero l = refl
flipped_bit (suc zero) l = refl
flipped_bit (suc (suc x)) l = absurd (omega arith)

kept_bit : (x : ℕ) → x < 2 → (x + 0) % 2 ≡ x
kept_bit zero l = refl
kept_bit (suc zero) l = refl
kept_bit (suc (suc x)) l = absurd (omega arith)

pub xor_this : (a p : ℕ) → cell_at (bit_xor a (2 ^ p)) p ≡ not (cell_at a p)
xor_this a p = ap (λ b. b == 1) (bit_at_xor a (2 ^ p) p ∙ ap (λ m. (bit_at a p + m) % 2) (bit_at-pow_same p)) ∙ flipped_bit (bit_at a p) (bit_at-lt a p)

pub xor_other : (a p q : ℕ) → (q ≡ p → ⊥) → cell_at (bit_xor a (2 ^ p)) q ≡ cell_at a q
xor_other a p q d = ap (λ b. b == 1) (bit_at_xor a (2 ^ p) q ∙ ap (λ m. (bit_at a q + m) % 2) (bit_at-pow_other p q d) ∙ kept_bit (bit_at a q) (bit_at-lt a q))

no_both : true ≡ false → ⊥
no_both e = cc

-- a pin has one bit
pub pow_same : (p q : ℕ) → 2 ^ p ≡ 2 ^ q → p ≡ q
pow_same p q e = elim (cases_eq p q) [
  | inl s ↦ s
  | inr d ↦ absurd (no_both (sym (cell_pow p) ∙ ap (λ m. cell_at m p) e ∙ cell_pow_other q p d))
]

pub xor_low : (a p : ℕ) → a < 64 → p < 6 → bit_xor a (2 ^ p) < 64
xor_low a p la lp = xor_lt 6 a (2 ^ p) la (pow_below p 6 lp)

-- 2 to the power of a place in a word
pow_fits : (k : ℕ) → k < 64 → 2 ^ k < 18446744073709551616
pow_fits k lk = pow_below k 64 lk

shifted : (bit k : ℕ) → bit < 2 → k < 64 → bit * 2 ^ k % 18446744073709551616 ≡ bit * 2 ^ k
shifted zero k lb lk = ap (λ m. m % 18446744073709551616) (zero_times (2 ^ k)) ∙ sym (zero_times (2 ^ k))
shifted (suc zero) k lb lk = let f = pow_fits k lk in omega arith
shifted (suc (suc b)) k lb lk = absurd (omega arith)

abbrev with_bit : (marks : List ℕ) (t bit : ℕ) → ℕ
with_bit marks t bit = bit_or (number_at marks (t / 64)) (bit * 2 ^ (t % 64) % 18446744073709551616)

module _ (marks : List ℕ) (t bit : ℕ) (within : t < 64 * length marks) (lb : bit < 2) where
  same_word : with_bit marks t bit ≡ bit_or (number_at marks (t / 64)) (bit * 2 ^ (t % 64))
  same_word = ap (bit_or (number_at marks (t / 64))) (shifted bit (t % 64) lb (omega arith))

  pub set_mark : is_marked (set marks (t / 64) (with_bit marks t bit)) t ≡ (is_marked marks t || (bit == 1))
  set_mark =
      this_mark marks t (with_bit marks t bit) within
      ∙ ap (λ w. cell_at w (t % 64)) same_word
      ∙ cell_or (number_at marks (t / 64)) (bit * 2 ^ (t % 64)) (t % 64)
      ∙ ap (λ b. is_marked marks t || b) (cell_times bit (t % 64) lb)

  pub set_others : (k : ℕ) → (k ≡ t → ⊥) → is_marked (set marks (t / 64) (with_bit marks t bit)) k ≡ is_marked marks k
  set_others = other_mark marks t (with_bit marks t bit) within (λ k lk d.
      ap (λ w. cell_at w k) same_word
      ∙ cell_or (number_at marks (t / 64)) (bit * 2 ^ (t % 64)) k
      ∙ ap (λ b. cell_at (number_at marks (t / 64)) k || b) (cell_times_other bit (t % 64) k lb d)
      ∙ or_no (cell_at (number_at marks (t / 64)) k))

-- a word in which a bit is turned where another is 1
abbrev with_turned : (marks : List ℕ) (t bit : ℕ) → ℕ
with_turned marks t bit = bit_xor (number_at marks (t / 64)) (bit * 2 ^ (t % 64) % 18446744073709551616)

xor_none : (w k : ℕ) → cell_at (bit_xor w 0) k ≡ cell_at w k
xor_none w k = ap (λ b. b == 1) (bit_at_xor w 0 k ∙ ap (λ m. (bit_at w k + m) % 2) (bit_of_cell (bit_at 0 k) 0 (bit_at-lt 0 k) (omega arith) (cell_zero k)) ∙ kept_bit (bit_at w k) (bit_at-lt w k))

xor_times : (w bit k : ℕ) → bit < 2 → cell_at (bit_xor w (bit * 2 ^ k)) k ≡ flip (bit == 1) (cell_at w k)
xor_times w zero k lb = ap (λ m. cell_at (bit_xor w m) k) (zero_times (2 ^ k)) ∙ xor_none w k
xor_times w (suc zero) k lb = ap (λ m. cell_at (bit_xor w m) k) (let e : 1 * 2 ^ k ≡ 2 ^ k = omega arith in e) ∙ xor_this w k
xor_times w (suc (suc b)) k lb = absurd (omega arith)

xor_times_other : (w bit k i : ℕ) → bit < 2 → (i ≡ k → ⊥) → cell_at (bit_xor w (bit * 2 ^ k)) i ≡ cell_at w i
xor_times_other w zero k i lb d = ap (λ m. cell_at (bit_xor w m) i) (zero_times (2 ^ k)) ∙ xor_none w i
xor_times_other w (suc zero) k i lb d = ap (λ m. cell_at (bit_xor w m) i) (let e : 1 * 2 ^ k ≡ 2 ^ k = omega arith in e) ∙ xor_other w k i d
xor_times_other w (suc (suc b)) k i lb d = absurd (omega arith)

module _ (marks : List ℕ) (t bit : ℕ) (within : t < 64 * length marks) (lb : bit < 2) where
  same_turn : with_turned marks t bit ≡ bit_xor (number_at marks (t / 64)) (bit * 2 ^ (t % 64))
  same_turn = ap (bit_xor (number_at marks (t / 64))) (shifted bit (t % 64) lb (omega arith))

  pub turned_mark : is_marked (set marks (t / 64) (with_turned marks t bit)) t ≡ flip (bit == 1) (is_marked marks t)
  turned_mark =
      this_mark marks t (with_turned marks t bit) within
      ∙ ap (λ w. cell_at w (t % 64)) same_turn
      ∙ xor_times (number_at marks (t / 64)) bit (t % 64) lb

  pub turned_others : (k : ℕ) → (k ≡ t → ⊥) → is_marked (set marks (t / 64) (with_turned marks t bit)) k ≡ is_marked marks k
  turned_others = other_mark marks t (with_turned marks t bit) within (λ k lk d. ap (λ w. cell_at w k) same_turn ∙ xor_times_other (number_at marks (t / 64)) bit (t % 64) k lb d)

-- two cells, as 0 or 1
pub change_few : (p q : ℕ) → p < 2 → q < 2 → bit_xor p q < 2
change_few = two_bits (λ p q. bit_xor p q < 2) (omega arith) (omega arith) (omega arith) (omega arith)

pub change_turns : (p q : ℕ) → p < 2 → q < 2 → flip (bit_xor p q == 1) (p == 1) ≡ (q == 1)
change_turns = two_bits (λ p q. flip (bit_xor p q == 1) (p == 1) ≡ (q == 1)) refl refl refl refl

-- all marks are taken away
pub clear_next : (marks : List ℕ) (k : ℕ) → k < length marks → ((t : ℕ) → t / 64 < k → is_marked marks t ≡ false) → (t : ℕ) → t / 64 < k + 1 → is_marked (set marks k 0) t ≡ false
clear_next marks k lk h t lt = elim (cases_eq (t / 64) k) [
  | inl e ↦ ap (λ r. cell_at (number_at (set marks k 0) r) (t % 64)) e ∙ ap (λ w. cell_at w (t % 64)) (get_or-set_same marks k 0 0 lk) ∙ cell_zero (t % 64)
  | inr d ↦ ap (λ w. cell_at w (t % 64)) (get_or-set_other marks k (t / 64) 0 0 d) ∙ h t (omega (arith, d))
]

pub clear_done : (marks : List ℕ) (k : ℕ) → length marks ≤ k → ((t : ℕ) → t / 64 < k → is_marked marks t ≡ false) → (t : ℕ) → is_marked marks t ≡ false
clear_done marks k g h t = elim (cases_lt (t / 64) k) [
  | inl l ↦ h t l
  | inr f ↦ ap (λ w. cell_at w (t % 64)) (get_or_past marks (t / 64) 0 (omega arith)) ∙ cell_zero (t % 64)
]

-- one more table
pub marked_next : (masks addresses marks marks' : List ℕ) (m bit : ℕ) → bit ≡ bit_at (number_at masks m) (number_at addresses m) → is_marked marks' m ≡ (is_marked marks m || (bit == 1)) → ((k : ℕ) → (k ≡ m → ⊥) → is_marked marks' k ≡ is_marked marks k) → AreMarkedTo masks addresses m marks → AreMarkedTo masks addresses (m + 1) marks'
marked_next masks addresses marks marks' m bit e this others old = record {
  done = λ t lt. elim (cases_eq t m) [
    | inl s ↦ ap (is_marked marks') s ∙ this ∙ ap (λ b. b || (bit == 1)) (old.rest m (omega arith)) ∙ ap (λ b. b == 1) e ∙ sym (ap (differs masks addresses) s)
    | inr d ↦ others t d ∙ old.done t (omega (arith, d))
  ];
  rest = λ t g. others t (λ s. (let no : ⊥ = omega (arith, s) in no)) ∙ old.rest t (omega arith);
}

pub marked_all : (masks addresses marks : List ℕ) (m : ℕ) → length masks ≤ m → AreMarkedTo masks addresses m marks → AreMarked masks addresses marks
marked_all masks addresses marks m g are t = elim (cases_lt t m) [
  | inl l ↦ are.done t l
  | inr f ↦ are.rest t f ∙ sym (ap (λ w. cell_at w (number_at addresses t)) (get_or_past masks t 0 (omega arith)) ∙ cell_zero (number_at addresses t))
]

-- a word without a bit
abbrev without_bit : (word bit : ℕ) → ℕ
without_bit word bit = bit_and word (18446744073709551615 - 1 * 2 ^ bit % 18446744073709551616)

module _ (word bit : ℕ) (lb : bit < 64) where
  pow_is : 1 * 2 ^ bit % 18446744073709551616 ≡ 2 ^ bit
  pow_is = let f = pow_fits bit lb in omega arith

  others_are : (k : ℕ) → k < 64 → cell_at (18446744073709551615 - 1 * 2 ^ bit % 18446744073709551616) k ≡ not (cell_at (2 ^ bit) k)
  others_are k lk = ap (λ m. cell_at (18446744073709551615 - m) k) pow_is ∙ cell_not (2 ^ bit) k (pow_fits bit lb) lk

  pub gone_without : cell_at (without_bit word bit) bit ≡ false
  gone_without = cell_and word (18446744073709551615 - 1 * 2 ^ bit % 18446744073709551616) bit ∙ ap (λ b. cell_at word bit && b) (others_are bit lb ∙ ap not (cell_pow bit)) ∙ and_no (cell_at word bit)

  pub rest_without : (k : ℕ) → k < 64 → (k ≡ bit → ⊥) → cell_at (without_bit word bit) k ≡ cell_at word k
  rest_without k lk d = cell_and word (18446744073709551615 - 1 * 2 ^ bit % 18446744073709551616) k ∙ ap (λ b. cell_at word k && b) (others_are k lk ∙ ap not (cell_pow_other bit k d)) ∙ and_yes (cell_at word k)

  pub less_without : cell_at word bit ≡ true → without_bit word bit < word
  less_without set = by (cases_eq (without_bit word bit) word)
    where
      by : (without_bit word bit ≡ word) ⊎ (without_bit word bit ≡ word → ⊥) → without_bit word bit < word
      by (inl e) = absurd (no_both (sym set ∙ ap (λ w. cell_at w bit) (sym e) ∙ gone_without))
      by (inr d) = let l = and_le_l word (18446744073709551615 - 1 * 2 ^ bit % 18446744073709551616) in omega (arith, d)
