-- Bits of words, read and written.
use Rattle.std.proofs.Common.{◌≡◌, ◌≢◌, ℕ, ◌+◌, ◌*◌, ◌/◌, ◌%◌, ◌<◌, ◌≤◌, ◌^◌, ◌==◌, Bool, true, false, List, length, get_or, sym, ap, ◌∙◌, arith, replicate, inl, inr}
use Rattle.std.proofs.{Math.ListN.set, Math.ListN.length-set, Math.ListN.get_or-eq_default}
use Rattle.std.proofs.lemmas.Nat.Bits.{bit_at-zero, bit_at_and, bit_at_not}
use Rattle.std.specs.Int.{bit_at, bit_not, w64}
use lib.Bits.{bit_and}
use Rattle.std.proofs.lemmas.{Bool.cases_lt, Bool.cases_eq, Bool.eqb-true, Bool.false≢true, List.FromFn.length-map-range_with_len, List.FromFn.get_or-map-range_with_len}
use Rattle.std.proofs.lemmas.List.{same_lists, length-replicate, get_or-replicate, get_or-set_same, get_or-set_other}
use Rattle.base_bits.specs.Words.{is_bit, is_bit_in, bits_of}

pub length-bits_of : (len : ℕ) (words : List ℕ) → length (bits_of len words) ≡ len
unfolding bits_of
length-bits_of len words = length-map-range_with_len (is_bit_in words) 0 len

pub get_or-bits_of : (len : ℕ) (words : List ℕ) (i : ℕ) (d : Bool) → i < len → get_or (bits_of len words) i d ≡ is_bit_in words i
unfolding bits_of
get_or-bits_of len words i d within = get_or-map-range_with_len (is_bit_in words) 0 len i i d within (omega arith)

abbrev zeros : ℕ → List ℕ
zeros count = replicate count 0

zero_word : (count i : ℕ) → get_or (zeros count) i 0 ≡ 0
zero_word count i =
    elim (cases_lt i count) [
      | inl lt ↦ get_or-replicate count i 0 0 lt
      | inr le ↦ get_or-eq_default (zeros count) 0 (omega (arith, length-replicate {A = ℕ} count 0))
    ]

pub none_set : (len : ℕ) (words : List ℕ) → ((k : ℕ) → get_or words k 0 ≡ 0) → bits_of len words ≡ replicate len false
none_set len words none =
    same_lists (bits_of len words) (replicate len false)
    (length-bits_of len words ∙ sym (length-replicate len false))
    (λ k d lt.
    let within : k < len = omega (arith, length-bits_of len words) in
    get_or-bits_of len words k d within
    ∙ ap (λ w. bit_at w (k % 64) == 1) (none (k / 64))
    ∙ ap (λ b. b == 1) (bit_at-zero (k % 64))
    ∙ sym (get_or-replicate len k false d within))

pub no_bits : (len count : ℕ) → bits_of len (zeros count) ≡ replicate len false
no_bits len count = none_set len (zeros count) (zero_word count)

pub cleared_next : (words : List ℕ) (k : ℕ) → k < length words → ((j : ℕ) → j < k → get_or words j 0 ≡ 0) → (j : ℕ) → j < k + 1 → get_or (set words k 0) j 0 ≡ 0
cleared_next words k inside none j lt =
    elim (cases_eq j k) [
      | inl e ↦ ap (λ i. get_or (set words k 0) i 0) e ∙ get_or-set_same words k 0 0 inside
      | inr differ ↦ get_or-set_other words k j 0 0 differ ∙ none j (omega arith)
    ]

pub cleared_all : (words : List ℕ) (k : ℕ) → length words ≤ k → ((j : ℕ) → j < k → get_or words j 0 ≡ 0) → (j : ℕ) → get_or words j 0 ≡ 0
cleared_all words k whole none j =
    elim (cases_lt j k) [
      | inl lt ↦ none j lt
      | inr le ↦ get_or-eq_default words 0 (omega arith)
    ]

-- one word takes the place of another, from which it differs at one bit at most
module _ (words : List ℕ) (i word : ℕ) (bit : Bool) (len : ℕ) (inside : i < 64 * length words) (this : is_bit word (i % 64) ≡ bit) (others : (k : ℕ) → k < 64 → k ≢ i % 64 → is_bit word k ≡ is_bit (get_or words (i / 64) 0) k) where
  row : i / 64 < length words
  row = omega arith

  same_bit : is_bit_in (set words (i / 64) word) i ≡ bit
  same_bit = ap (λ w. is_bit w (i % 64)) (get_or-set_same words (i / 64) word 0 row) ∙ this

  other_bit : (k : ℕ) → k ≢ i → is_bit_in (set words (i / 64) word) k ≡ is_bit_in words k
  other_bit k differ =
      elim (cases_eq (k / 64) (i / 64)) [
        | inl one ↦
            let place : k % 64 ≢ i % 64 = λ e. differ (omega (arith, e, one)) in
            ap (λ r. is_bit (get_or (set words (i / 64) word) r 0) (k % 64)) one
            ∙ ap (λ w. is_bit w (k % 64)) (get_or-set_same words (i / 64) word 0 row)
            ∙ others (k % 64) (omega arith) place
            ∙ ap (λ r. is_bit (get_or words r 0) (k % 64)) (sym one)
        | inr apart ↦ ap (λ w. is_bit w (k % 64)) (get_or-set_other words (i / 64) (k / 64) word 0 apart)
      ]

  pub bits_of-set : bits_of len (set words (i / 64) word) ≡ set (bits_of len words) i bit
  bits_of-set =
      same_lists (bits_of len (set words (i / 64) word)) (set (bits_of len words) i bit)
      (length-bits_of len (set words (i / 64) word) ∙ sym (length-set (bits_of len words) i bit ∙ length-bits_of len words))
      (λ k d lt.
      let within : k < len = omega (arith, length-bits_of len (set words (i / 64) word)) in
      get_or-bits_of len (set words (i / 64) word) k d within
      ∙ elim (cases_eq k i) [
        | inl e ↦
            ap (is_bit_in (set words (i / 64) word)) e ∙ same_bit
            ∙ sym (ap (λ j. get_or (set (bits_of len words) i bit) j d) e ∙ get_or-set_same (bits_of len words) i bit d (omega (arith, length-bits_of len words)))
        | inr differ ↦ other_bit k differ ∙ sym (get_or-set_other (bits_of len words) i k bit d differ ∙ get_or-bits_of len words k d within)
      ])

-- a word has no bit that the other hasn't
pub part_of : (word other k : ℕ) → other < 2 ^ 64 → (bit_and word (bit_not w64 other) == 0) ≡ true → k < 64 → is_bit word k ≡ true → is_bit other k ≡ true
part_of word other k fits none within on =
    let both = bit_at_and word (bit_not w64 other) k in
    let turned = bit_at_not w64 other k fits within in
    let zero = ap (λ n. bit_at n k) (eqb-true (bit_and word (bit_not w64 other)) 0 none) ∙ bit_at-zero k in
    let one : bit_at word k ≡ 1 = eqb-true (bit_at word k) 1 on in
    ap (λ n. n == 1) (let so : bit_at other k ≡ 1 = omega (arith, both, turned, zero, one) in so)

-- .. of two lists of words, where that holds of the words at one place
pub part_at : (words others : List ℕ) (i k : ℕ) → ((j : ℕ) → j < 64 → is_bit (get_or words k 0) j ≡ true → is_bit (get_or others k 0) j ≡ true) → i / 64 ≡ k → is_bit_in words i ≡ true → is_bit_in others i ≡ true
part_at words others i k part at on =
    ap (λ r. is_bit (get_or others r 0) (i % 64)) at
    ∙ part (i % 64) (omega arith) (ap (λ r. is_bit (get_or words r 0) (i % 64)) (sym at) ∙ on)

-- .. and of two lists of bits of one length
pub part_in : (words others : List ℕ) (len i : ℕ) → (is_bit_in words i ≡ true → is_bit_in others i ≡ true) → get_or (bits_of len words) i false ≡ true → get_or (bits_of len others) i false ≡ true
part_in words others len i part on =
    elim (cases_lt i len) [
      | inl within ↦ get_or-bits_of len others i false within ∙ part (sym (get_or-bits_of len words i false within) ∙ on)
      | inr past ↦ absurd (false≢true (sym (get_or-eq_default (bits_of len words) false (omega (arith, past, length-bits_of len words))) ∙ on))
    ]
