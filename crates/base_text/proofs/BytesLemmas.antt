-- Physical lines and words, taken off the front.
use Rattle.std.proofs.Common.{◌≡◌, ℕ, ◌<◌, ◌≤◌, ◌==◌, Bool, true, false, cond, List, [], ◌∷◌, ◌++◌, length, take_all, refl, sym, ap, ◌∙◌, arith, append_assoc, nat_lt, inl, inr, add-one, map, ◌||◌}
use Rattle.std.specs.Borrow.{Bor}
use Rattle.base_text.proofs.Vocabulary.{position_or_len, before_first, after_first, list_any, cases_Bool, cases_lt, fails_before_first}
use Rattle.std.proofs.{Math.Numerals.one-add, lemmas.List.Splits.slice_split_first, lemmas.List.Splits.slice_split_none}
use Rattle.base_text.specs.Bytes.{is_blank, is_bad, has_bad_byte, physical_lines, run_of, words_of}

abbrev is_feed : ℕ → Bool
is_feed b = b == 10

pub physical_first : (bs : List ℕ) → position_or_len is_feed bs < length bs → physical_lines bs ≡ before_first is_feed bs ∷ physical_lines (after_first is_feed bs)
unfolding physical_lines
physical_first [] h = absurd (omega arith)
physical_first (b ∷ bs) h =
    elim (cases_Bool (b == 10)) [
      | inl feed ↦ rw feed refl
      | inr other ↦
          let within : position_or_len is_feed bs < length bs = let k = rw other at h in omega arith in
          rw (other, physical_first bs within) (simp (one-add, add-one))
    ]

pub physical_last : (bs : List ℕ) → 0 < length bs → length bs ≤ position_or_len is_feed bs → physical_lines bs ≡ bs ∷ []
unfolding physical_lines
physical_last [] h e = absurd (omega arith)
physical_last (b ∷ []) h e = elim (cases_Bool (b == 10)) [ inl feed ↦ absurd (let k = rw feed at e in omega arith) | inr other ↦ rw other refl ]
physical_last (b ∷ c ∷ bs) h e =
    elim (cases_Bool (b == 10)) [
      | inl feed ↦ absurd (let k = rw feed at e in omega arith)
      | inr other ↦
          let past : length (c ∷ bs) ≤ position_or_len is_feed (c ∷ bs) = let k = rw other at e in omega arith in
          rw (other, physical_last (c ∷ bs) (omega arith) past) refl
    ]

pub words_first : (text : List ℕ) → position_or_len is_blank text < length text → words_of text ≡ run_of (before_first is_blank text) ++ words_of (after_first is_blank text)
words_first text h = rw (slice_split_first is_blank text 0 h) (cond_front (nat_lt 0 (length (before_first is_blank text))) (before_first is_blank text) (words_of (after_first is_blank text)))
  where
    cond_front : (b : Bool) (w : List ℕ) (ws : List (List ℕ)) → cond b (w ∷ ws) ws ≡ cond b (w ∷ []) [] ++ ws
    cond_front true w ws = refl
    cond_front false w ws = refl

pub words_last : (text : List ℕ) → length text ≤ position_or_len is_blank text → words_of text ≡ run_of text
words_last text h = rw (slice_split_none is_blank text (λ k d lt. fails_before_first is_blank text k d (omega arith))) refl

pub words_more : (front : List (List ℕ)) (text : List ℕ) → position_or_len is_blank text < length text → (front ++ run_of (before_first is_blank text)) ++ words_of (after_first is_blank text) ≡ front ++ words_of text
words_more front text h = append_assoc front _ _ ∙ ap (λ ws. front ++ ws) (sym (words_first text h))

-- a bad byte in one of some words
pub has_bad_byte_words : (ws : List (Bor (List ℕ))) → list_any (λ w. list_any is_bad w.now) ws ≡ has_bad_byte (map (λ w. w.now) ws)
has_bad_byte_words [] = refl
has_bad_byte_words (w ∷ ws) = ap (λ b. list_any is_bad w.now || b) (has_bad_byte_words ws)

pub words_end : (front : List (List ℕ)) (text : List ℕ) → length text ≤ position_or_len is_blank text → front ++ run_of (before_first is_blank text) ≡ front ++ words_of text
words_end front text h = ap (λ ws. front ++ ws) (sym (words_last text h ∙ ap run_of (sym (take_all (position_or_len is_blank text) text h))))

pub physical_some : (bs : List ℕ) → 0 < length bs → (p : List ℕ) × (ps : List (List ℕ)) × (physical_lines bs ≡ p ∷ ps)
physical_some bs some =
    elim (cases_lt (position_or_len is_feed bs) (length bs)) [
      | inl lt ↦ (before_first is_feed bs, physical_lines (after_first is_feed bs), physical_first bs lt)
      | inr le ↦ (bs, [], physical_last bs some le)
    ]
