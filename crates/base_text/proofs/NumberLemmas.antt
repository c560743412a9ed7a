-- Numerals and their values.
use Rattle.std.proofs.Common.{◌≡◌, ℕ, zero, suc, ◌+◌, ◌-◌, ◌*◌, ◌^◌, ◌<◌, ◌≤◌, ◌/◌, ◌%◌, ◌++◌, true, List, [], ◌∷◌, Option, Some, None, length, get_or, sym, ap, ◌∙◌, subst, arith, rules, drop, append_assoc, length-append, inl, inr, MatchOption, IfSome, IfNone}
use Rattle.base_text.proofs.Vocabulary.{all_ascii_digits, decimal, cases_lt, set, drop-set, drop_all, append-nil, read_on, IsPlain}
use Rattle.std.proofs.{Math.Seq.drop-cons, lemmas.Str.Parse.IsNumeralModel, lemmas.Str.Parse.numerals_by_fold}
use Rattle.std.proofs.lemmas.Fmt.{decimal_nonempty, first_decimal, decimal_digit, decimal_step, length-decimal-le, digits_decimal, digits_value-decimal, decimal-digits_value}

pub own : IsNumeralModel (λ ds. all_ascii_digits ds ≡ true) (read_on 0)
own = numerals_by_fold _ (search rules) read_on (search rules)

pub read_on-more : (n : ℕ) (ds : List ℕ) → n ≤ read_on n ds
read_on-more n [] = omega arith
read_on-more n (c ∷ cs) = omega (arith, read_on-more (10 * n + (c - 48)) cs)

plain : (n : ℕ) → n < 2 ^ 64 → IsPlain (decimal n)
plain zero lt = (decimal_nonempty 0 lt, λ e. ap length (decimal_digit 0 (omega arith)))
plain (suc n) lt = (decimal_nonempty (suc n) lt, λ e. absurd (omega (arith, first_decimal (suc n) (omega arith) lt)))

pub not_plain : (word : List ℕ) (most : ℕ) → most < 2 ^ 64 → (IsPlain word → ⊥) → (n : ℕ) → n ≤ most → word ≡ decimal n → ⊥
not_plain word most fits bad n le e = bad (subst IsPlain (sym e) (plain n (omega arith)))

pub some_is : (word : List ℕ) (most : ℕ) (r : Option ℕ) → most < 2 ^ 64 → IsPlain word → MatchOption r (all_ascii_digits word ≡ true → most < read_on 0 word) (λ n. (all_ascii_digits word ≡ true) × (n ≡ read_on 0 word) × (n ≤ most)) → IfSome r (λ n. (word ≡ decimal n) × (n ≤ most))
some_is word most None fits p h = tt
some_is word most (Some n) fits p h = (sym (decimal-digits_value own word h.0 p.0 p.1 (omega (arith, h.1, h.2))) ∙ ap decimal (sym h.1), h.2)

pub none_is : (word : List ℕ) (most : ℕ) (r : Option ℕ) → most < 2 ^ 64 → MatchOption r (all_ascii_digits word ≡ true → most < read_on 0 word) (λ n. (all_ascii_digits word ≡ true) × (n ≡ read_on 0 word) × (n ≤ most)) → IfNone r ((n : ℕ) → n ≤ most → word ≡ decimal n → ⊥)
none_is word most None fits h = λ n le e.
    let lt : n < 2 ^ 64 = omega arith in
    let digits : all_ascii_digits word ≡ true = ap all_ascii_digits e ∙ digits_decimal own n lt in
    let value : read_on 0 word ≡ n = ap (read_on 0) e ∙ digits_value-decimal own n lt in
    omega (arith, h digits, value)
none_is word most (Some n) fits h = tt

pub past : (word : List ℕ) (i n most : ℕ) → i < length word → read_on n (drop i word) ≡ read_on 0 word → (10 * n + (get_or word i 0 - 48) ≤ most → ⊥) → most < read_on 0 word
past word i n most lt e over =
    let value : read_on (10 * n + (get_or word i 0 - 48)) (drop (suc i) word) ≡ read_on 0 word = rw (drop-cons word i 0) at e in
    elim (cases_lt most (10 * n + (get_or word i 0 - 48))) [
      | inl above ↦ omega (arith, read_on-more (10 * n + (get_or word i 0 - 48)) (drop (suc i) word), value)
      | inr below ↦ absurd (over below)
    ]

-- a digit written in front of those from a place on
written : (digits : List ℕ) (place digit : ℕ) → 0 < place → place ≤ length digits → drop (place - 1) (set digits (place - 1) digit) ≡ digit ∷ drop place digits
written digits place digit some within =
    let back : place - 1 + 1 ≡ place = omega arith in
    drop-set digits (place - 1) digit (omega arith) ∙ ap (λ k. digit ∷ drop k digits) back

pub room_before : (n place : ℕ) → n < 2 ^ 64 → length (decimal n) ≤ place → 0 < place
room_before n place fits room = omega (arith, decimal_nonempty n fits)

-- what a loop that writes the last digit of the rest keeps: the numeral of the rest stands before what is written
module _ (digits : List ℕ) (place left n : ℕ) (fits : left < 2 ^ 64) (numeral : decimal left ++ drop place digits ≡ decimal n) (room : length (decimal left) ≤ place) (within : place ≤ length digits) where
  pub last_digit : left < 10 → drop (place - 1) (set digits (place - 1) (48 + left % 10)) ≡ decimal n
  last_digit one =
      let whole : left % 10 ≡ left = omega arith in
      let digit : decimal left ≡ (48 + left % 10) ∷ [] = decimal_digit left one ∙ ap (λ d. (48 + d) ∷ []) (sym whole) in
      written digits place (48 + left % 10) (room_before left place fits room) within ∙ ap (λ ds. ds ++ drop place digits) (sym digit) ∙ numeral

  pub more_digits : 10 ≤ left → decimal (left / 10) ++ drop (place - 1) (set digits (place - 1) (48 + left % 10)) ≡ decimal n
  more_digits more =
      ap (λ ds. decimal (left / 10) ++ ds) (written digits place (48 + left % 10) (room_before left place fits room) within)
      ∙ sym (append_assoc (decimal (left / 10)) ((48 + left % 10) ∷ []) (drop place digits))
      ∙ ap (λ ds. ds ++ drop place digits) (sym (decimal_step left more fits))
      ∙ numeral

  pub less_room : 10 ≤ left → length (decimal (left / 10)) ≤ place - 1
  less_room more = omega (arith, length-append (decimal (left / 10)) ((48 + left % 10) ∷ []), ap length (decimal_step left more fits), room)

pub starts : (digits : List ℕ) (n : ℕ) → n < 2 ^ 64 → length digits ≡ 20 → (decimal n ++ drop 20 digits ≡ decimal n) × (length (decimal n) ≤ 20)
starts digits n fits size =
    let none : drop 20 digits ≡ [] = drop_all 20 digits (omega arith) in
    (rw none (append-nil (decimal n)), length-decimal-le 20 n (omega arith) (omega arith) fits)

-- the value of a numeral
pub read_on-decimal : (n : ℕ) → n < 2 ^ 64 → read_on 0 (decimal n) ≡ n
read_on-decimal n fits = digits_value-decimal own n fits
