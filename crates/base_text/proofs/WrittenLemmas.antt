-- Written lines are read back.
use Rattle.std.proofs.Common.{◌≡◌, ℕ, zero, suc, ◌+◌, ◌<◌, ◌≤◌, ◌==◌, Bool, true, false, not, ◌&&◌, ◌||◌, cond, nat_lt, List, [], ◌∷◌, ◌++◌, length, map, filter, refl, sym, ap, ◌∙◌, arith, append_assoc, take_all, ◌^◌}
use Rattle.std.specs.{List.flat_map, List.list_all, List.list_any, List.All, List.position_or_len, Char.is_ascii_digit}
use Rattle.base_text.proofs.Vocabulary.{and_parts, and_from, lt-ltb, append-nil, decimal, all_ascii_digits}
use Rattle.std.proofs.lemmas.Bool.Decides.{nat_tests}
use Rattle.std.proofs.lemmas.{List.Folds.list_all-append, List.Splits.slice_split_none, Fmt.decimal_nonempty, Fmt.digits_decimal}
use Rattle.base_text.proofs.NumberLemmas.{own}
use Rattle.base_text.specs.Vocabulary.{is_blank, is_bad, has_bad_byte, physical_lines, uncommented, words_of, LogicalLine, texts_of, line_of, with_words, lines_from, spaced, written, is_graphic, IsWord, AreRows, numbered}
use Rattle.base_text.proofs.LinesLemmas.{words-append}

-- a byte that ends no line and begins no comment
abbrev is_inner : ℕ → Bool
is_inner b = nat_lt 31 b && not (b == 35)

graphic_inner : (b : ℕ) → is_graphic b ≡ true → is_inner b ≡ true
graphic_inner b h = grind (arith, nat_tests)

graphic_whole : (b : ℕ) → is_graphic b ≡ true → is_blank b ≡ false
graphic_whole b h = grind (arith, nat_tests)

graphic_sound : (b : ℕ) → is_graphic b ≡ true → is_bad b ≡ false
graphic_sound b h = grind (arith, nat_tests)

inner_no_feed : (b : ℕ) → is_inner b ≡ true → (b == 10) ≡ false
inner_no_feed b h = grind (arith, nat_tests)

inner_no_comment : (b : ℕ) → is_inner b ≡ true → (b == 35) ≡ false
inner_no_comment b h = grind (arith, nat_tests)

weaker : (p q : ℕ → Bool) → ((b : ℕ) → p b ≡ true → q b ≡ true) → (bs : List ℕ) → list_all p bs ≡ true → list_all q bs ≡ true
weaker p q step [] h = refl
weaker p q step (b ∷ bs) h =
    let parts = and_parts (p b) (list_all p bs) h in
    and_from (q b) (list_all q bs) (step b parts.0) (weaker p q step bs parts.1)

-- ---- inner bytes of a line

inner_words : (ws : List (List ℕ)) → All IsWord ws → list_all is_inner (flat_map (λ v. 32 ∷ v) ws) ≡ true
inner_words [] h = refl
inner_words (w ∷ ws) h =
    list_all-append is_inner w (flat_map (λ v. 32 ∷ v) ws)
    ∙ and_from (list_all is_inner w) (list_all is_inner (flat_map (λ v. 32 ∷ v) ws)) (weaker is_graphic is_inner graphic_inner w (h 0 [] (omega arith)).1) (inner_words ws (λ k d lt. h (suc k) d (omega arith)))

inner_line : (ws : List (List ℕ)) → All IsWord ws → list_all is_inner (spaced ws) ≡ true
inner_line [] h = refl
inner_line (w ∷ ws) h =
    list_all-append is_inner w (flat_map (λ v. 32 ∷ v) ws)
    ∙ and_from (list_all is_inner w) (list_all is_inner (flat_map (λ v. 32 ∷ v) ws)) (weaker is_graphic is_inner graphic_inner w (h 0 [] (omega arith)).1) (inner_words ws (λ k d lt. h (suc k) d (omega arith)))

-- ---- a line taken off

first_line : (bs rest : List ℕ) → list_all is_inner bs ≡ true → physical_lines (bs ++ 10 ∷ rest) ≡ bs ∷ physical_lines rest
unfolding physical_lines
first_line [] rest h = refl
first_line (b ∷ bs) rest h =
    let parts = and_parts (is_inner b) (list_all is_inner bs) h in
    rw (inner_no_feed b parts.0, first_line bs rest parts.1) refl

comment_far : (bs : List ℕ) → list_all is_inner bs ≡ true → length bs ≤ position_or_len (λ b. b == 35) bs
comment_far [] h = omega arith
comment_far (b ∷ bs) h =
    let parts = and_parts (is_inner b) (list_all is_inner bs) h in
    rw (inner_no_comment b parts.0) (omega (arith, comment_far bs parts.1))

no_comment : (bs : List ℕ) → list_all is_inner bs ≡ true → uncommented bs ≡ bs
no_comment bs h = take_all (position_or_len (λ b. b == 35) bs) bs (comment_far bs h)

no_blanks : (w : List ℕ) → list_all is_graphic w ≡ true → All (λ b. is_blank b ≡ false) w
no_blanks [] h k d lt = absurd (omega arith)
no_blanks (b ∷ w) h zero d lt = graphic_whole b (and_parts (is_graphic b) (list_all is_graphic w) h).0
no_blanks (b ∷ w) h (suc k) d lt = no_blanks w (and_parts (is_graphic b) (list_all is_graphic w) h).1 k d (omega arith)

one_word : (w : List ℕ) → IsWord w → words_of w ≡ w ∷ []
one_word w h =
    ap (filter (λ x. nat_lt 0 (length x))) (slice_split_none is_blank w (no_blanks w h.1))
    ∙ ap (λ t. cond t (w ∷ []) []) (lt-ltb 0 (length w) h.0)

words_behind : (a : List ℕ) (ws : List (List ℕ)) → All IsWord ws → words_of (a ++ flat_map (λ v. 32 ∷ v) ws) ≡ words_of a ++ ws
words_behind a [] h = ap words_of (append-nil a) ∙ sym (append-nil (words_of a))
words_behind a (w ∷ ws) h =
    words-append a (w ++ flat_map (λ v. 32 ∷ v) ws)
    ∙ ap (λ vs. words_of a ++ vs) (words_behind w ws (λ k d lt. h (suc k) d (omega arith)) ∙ ap (λ vs. vs ++ ws) (one_word w (h 0 [] (omega arith))))

words_back : (ws : List (List ℕ)) → All IsWord ws → words_of (spaced ws) ≡ ws
words_back [] h = refl
words_back (w ∷ ws) h = words_behind w ws (λ k d lt. h (suc k) d (omega arith)) ∙ ap (λ vs. vs ++ ws) (one_word w (h 0 [] (omega arith)))

-- ---- all lines

pub lines_back : (n : ℕ) (rows : List (List (List ℕ))) → AreRows rows → lines_from false n (written rows) ≡ numbered n rows
unfolding physical_lines texts_of
lines_back n [] h = refl
lines_back n (r ∷ rows) h =
    let this = h 0 [] (omega arith) in
    let below = lines_back (n + 1) rows (λ k d lt. h (suc k) d (omega arith)) in
    ap (λ bs. lines_from false n bs) (append_assoc (spaced r) (10 ∷ []) (written rows))
    ∙ ap (λ ps. with_words (map line_of (texts_of false n ps))) (first_line (spaced r) (written rows) (inner_line r this.1))
    ∙ ap front (ap words_of (no_comment (spaced r) (inner_line r this.1)) ∙ words_back r this.1)
    ∙ ap (λ t. cond t (record { number = n; words = r } ∷ lines_from false (n + 1) (written rows)) (lines_from false (n + 1) (written rows))) (lt-ltb 0 (length r) this.0)
    ∙ ap (λ ls. record { number = n; words = r } ∷ ls) below
  where
    front : List (List ℕ) → List LogicalLine
    front ws = cond (nat_lt 0 (length ws)) (record { number = n; words = ws } ∷ lines_from false (n + 1) (written rows)) (lines_from false (n + 1) (written rows))

sound_word : (w : List ℕ) → list_all is_graphic w ≡ true → list_any is_bad w ≡ false
sound_word [] h = refl
sound_word (b ∷ w) h = let parts = and_parts (is_graphic b) (list_all is_graphic w) h in (λ i. graphic_sound b parts.0 i || sound_word w parts.1 i)

pub sound_words : (ws : List (List ℕ)) → All IsWord ws → has_bad_byte ws ≡ false
sound_words [] h = refl
sound_words (w ∷ ws) h = (λ i. sound_word w (h 0 [] (omega arith)).1 i || sound_words ws (λ k d lt. h (suc k) d (omega arith)) i)

-- ---- numerals as words

digit_graphic : (c : ℕ) → is_ascii_digit c ≡ true → is_graphic c ≡ true
digit_graphic c h = grind (arith, nat_tests)

digits_graphic : (ds : List ℕ) → all_ascii_digits ds ≡ true → list_all is_graphic ds ≡ true
digits_graphic [] h = refl
digits_graphic (c ∷ cs) h =
    let parts = and_parts (is_ascii_digit c) (all_ascii_digits cs) h in
    and_from (is_graphic c) (list_all is_graphic cs) (digit_graphic c parts.0) (digits_graphic cs parts.1)

pub decimal_word : (n : ℕ) → n < 2 ^ 64 → IsWord (decimal n)
decimal_word n fits = (decimal_nonempty n fits, digits_graphic (decimal n) (digits_decimal own n fits))
