-- Words that are looked at.
use Rattle.std.proofs.Common.{◌≡◌, ◌∙◌, ℕ, ◌≤◌, List, Bool, true, false, cond, leb, ◌&&◌, Some, None, length, refl, sym, ap, arith, bytes_eq}
use Rattle.cmd_top.proofs.Vocabulary.{decimal, word_at, number_of, begins_with}
use Rattle.std.proofs.lemmas.{Bool.eqb-true, Bool.le-leb, Bool.leb-true, Bool.and_parts, Slice.Eq.bytes_eq-Decides}
use Rattle.std.proofs.lemmas.Fmt.{digits_value-decimal}
use Rattle.base_text.specs.Number.{read_on}
use Rattle.base_text.proofs.NumberLemmas.{own}

-- ---- numerals

pub some_number : (word : List ℕ) (n : ℕ) → word ≡ decimal n → n ≤ 4294967295 → Some n ≡ number_of word
some_number word n e le =
    let v : read_on 0 word ≡ n = ap (read_on 0) e ∙ digits_value-decimal own n (omega (arith, le)) in
    let again : decimal (read_on 0 word) ≡ word = ap decimal v ∙ sym e in
    let same : bytes_eq (decimal (read_on 0 word)) word ≡ true = grind (arith, bytes_eq-Decides (decimal (read_on 0 word)) word, again) in
    let low : leb (read_on 0 word) 4294967295 ≡ true = le-leb (read_on 0 word) 4294967295 (omega (arith, v, le)) in
    rw (same, low) (ap Some (sym v))

bytes_same : (xs ys : List ℕ) → bytes_eq xs ys ≡ true → xs ≡ ys
bytes_same xs ys e = grind (arith, bytes_eq-Decides xs ys, e)

pub no_number : (word : List ℕ) → ((n : ℕ) → n ≤ 4294967295 → word ≡ decimal n → ⊥) → None ≡ number_of word
no_number word none = by_test (bytes_eq (decimal (read_on 0 word)) word && leb (read_on 0 word) 4294967295) refl
  where
    by_test : (b : Bool) → (bytes_eq (decimal (read_on 0 word)) word && leb (read_on 0 word) 4294967295) ≡ b → None ≡ cond b (Some (read_on 0 word)) None
    by_test true e = let p = and_parts _ _ e in absurd (none (read_on 0 word) (leb-true (read_on 0 word) 4294967295 p.1) (sym (bytes_same (decimal (read_on 0 word)) word p.0)))
    by_test false e = refl

-- ---- a line of the table

-- which word is the first, and how many there are: so no other line is theirs
pub begun : (words : List (List ℕ)) (count : ℕ) (first : List ℕ) → begins_with words count first ≡ true
    → (word_at words 0 ≡ first) × (length words ≡ count)
begun words count first is = let p = and_parts _ _ is in (bytes_same (word_at words 0) first p.1, eqb-true (length words) count p.0)
