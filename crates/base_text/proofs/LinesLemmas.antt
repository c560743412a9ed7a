-- Logical lines, made from the front.
use Rattle.std.proofs.Common.{◌≡◌, ℕ, ◌+◌, ◌<◌, Bool, true, false, cond, List, [], ◌∷◌, ◌++◌, Option, Some, None, length, map, filter, ◌⊎◌, refl, sym, ap, ◌∙◌, append_assoc, nat_lt, inl, inr}
use Rattle.std.specs.List.{slice_split, onto_first}
use Rattle.base_text.proofs.BytesLemmas.{physical_some}
use Rattle.base_text.specs.Vocabulary.{is_blank, physical_lines, uncommented, joining_part, words_of, Text, LogicalLine, line_of, texts_of, onto_next, lines_from}

-- a blank between two texts parts their words
is_word : List ℕ → Bool
is_word w = nat_lt 0 (length w)

onto_first-append : (b : ℕ) (a c : List (List ℕ)) (p : List ℕ) → onto_first b ((p ∷ a) ++ c) ≡ onto_first b (p ∷ a) ++ c
onto_first-append b a c p = refl

split-some : (s : List ℕ) → (p : List ℕ) × (ps : List (List ℕ)) × (slice_split is_blank s ≡ p ∷ ps)
split-some [] = ([], [], refl)
split-some (b ∷ s) = some_cond (is_blank b) (split-some s)
  where
    some_cond : (t : Bool) → ((p : List ℕ) × (ps : List (List ℕ)) × (slice_split is_blank s ≡ p ∷ ps)) → (p : List ℕ) × (ps : List (List ℕ)) × (cond t ([] ∷ slice_split is_blank s) (onto_first b (slice_split is_blank s)) ≡ p ∷ ps)
    some_cond true h = ([], slice_split is_blank s, refl)
    some_cond false h = (b ∷ h.0, h.1, ap (onto_first b) h.2)

split-blank : (a c : List ℕ) → slice_split is_blank (a ++ 32 ∷ c) ≡ slice_split is_blank a ++ slice_split is_blank c
split-blank [] c = refl
split-blank (b ∷ a) c = rw (split-blank a c) (by_test (is_blank b) (split-some a))
  where
    rest : List (List ℕ)
    rest = slice_split is_blank c

    by_test : (t : Bool) → ((p : List ℕ) × (ps : List (List ℕ)) × (slice_split is_blank a ≡ p ∷ ps)) → cond t ([] ∷ (slice_split is_blank a ++ rest)) (onto_first b (slice_split is_blank a ++ rest)) ≡ cond t ([] ∷ slice_split is_blank a) (onto_first b (slice_split is_blank a)) ++ rest
    by_test true h = refl
    by_test false h = rw h.2 refl

filter-append : {A : Type 0} (p : A → Bool) (xs ys : List A) → filter p (xs ++ ys) ≡ filter p xs ++ filter p ys
filter-append p [] ys = refl
filter-append p (x ∷ xs) ys = rw (filter-append p xs ys) (by_test (p x))
  where
    by_test : (t : Bool) → cond t (x ∷ (filter p xs ++ filter p ys)) (filter p xs ++ filter p ys) ≡ cond t (x ∷ filter p xs) (filter p xs) ++ filter p ys
    by_test true = refl
    by_test false = refl

pub words-append : (a c : List ℕ) → words_of (a ++ 32 ∷ c) ≡ words_of a ++ words_of c
words-append a c = ap (filter (λ w. nat_lt 0 (length w))) (split-blank a c) ∙ filter-append (λ w. nat_lt 0 (length w)) (slice_split is_blank a) (slice_split is_blank c)

-- words that stand before the first line, which has this number
abbrev pub with_front : ℕ → List (List ℕ) → List LogicalLine → List LogicalLine
with_front n ws [] = record { number = n; words = ws } ∷ []
with_front n ws (l ∷ ls) = record { number = n; words = ws ++ l.words } ∷ ls

abbrev lines : Bool → ℕ → List (List ℕ) → List LogicalLine
lines joined n ps = map line_of (texts_of joined n ps)

-- a physical line that joins nothing
pub line_ends : (joined : Bool) (first n : ℕ) (front : List (List ℕ)) (p : List ℕ) (ps : List (List ℕ)) → cond joined (joining_part (uncommented p)) None ≡ None
    → with_front first front (map line_of (texts_of joined n (p ∷ ps))) ≡ record { number = first; words = front ++ words_of (uncommented p) } ∷ map line_of (texts_of joined (n + 1) ps)
unfolding texts_of
line_ends joined first n front p ps e = rw e refl

joined_front : (first n : ℕ) (front : List (List ℕ)) (part : List ℕ) (texts : List Text) → with_front first front (map line_of (onto_next (record { number = n; bytes = part }) texts)) ≡ with_front first (front ++ words_of part) (map line_of texts)
joined_front first n front part [] = refl
joined_front first n front part (t ∷ texts) = ap (λ ws. record { number = first; words = ws } ∷ map line_of texts) (ap (λ ws. front ++ ws) (words-append part t.bytes) ∙ sym (append_assoc front (words_of part) (words_of t.bytes)))

-- a physical line that goes on
pub line_goes_on : (joined : Bool) (first n : ℕ) (front : List (List ℕ)) (p part : List ℕ) (ps : List (List ℕ)) → cond joined (joining_part (uncommented p)) None ≡ Some part
    → with_front first front (map line_of (texts_of joined n (p ∷ ps))) ≡ with_front first (front ++ words_of part) (map line_of (texts_of joined (n + 1) ps))
unfolding texts_of
line_goes_on joined first n front p part ps e = rw e (joined_front first n front part (texts_of joined (n + 1) ps))

pub cases_part : (o : Option (List ℕ)) → (o ≡ None) ⊎ ((part : List ℕ) × (o ≡ Some part))
cases_part None = inl refl
cases_part (Some part) = inr (part, refl)

joined_no_front : (n : ℕ) (part : List ℕ) (texts : List Text) → with_front n [] (map line_of (onto_next (record { number = n; bytes = part }) texts)) ≡ map line_of (onto_next (record { number = n; bytes = part }) texts)
joined_no_front n part [] = refl
joined_no_front n part (t ∷ texts) = refl

-- with nothing before them, the lines stay
pub no_front : (joined : Bool) (n : ℕ) (p : List ℕ) (ps : List (List ℕ)) → with_front n [] (map line_of (texts_of joined n (p ∷ ps))) ≡ map line_of (texts_of joined n (p ∷ ps))
unfolding texts_of
no_front joined n p ps =
    elim (cases_part (cond joined (joining_part (uncommented p)) None)) [
      | inl e ↦ rw e refl
      | inr h ↦ rw h.1 (joined_no_front n h.0 (texts_of joined (n + 1) ps))
    ]

-- where nothing is left, the words before are a line
pub at_end : (joined : Bool) (first n : ℕ) (front : List (List ℕ)) (rest : List ℕ) → rest ≡ [] → with_front first front (map line_of (texts_of joined n (physical_lines rest))) ≡ record { number = first; words = front } ∷ map line_of (texts_of joined n (physical_lines rest))
unfolding texts_of physical_lines
at_end joined first n front rest e = rw e refl

-- the same as a loop meets them: what it read so far, and what is left, are the whole
module _ (joined : Bool) (first n : ℕ) (front : List (List ℕ)) (left : List (List ℕ)) (whole : List LogicalLine) (so_far : with_front first front (map line_of (texts_of joined n left)) ≡ whole) where
  pub goes_on : (p text part : List ℕ) (ps : List (List ℕ)) → left ≡ p ∷ ps → text ≡ uncommented p → Some part ≡ cond joined (joining_part text) None → with_front first (front ++ words_of part) (map line_of (texts_of joined (n + 1) ps)) ≡ whole
  goes_on p text part ps parts cut joins =
      let e : cond joined (joining_part (uncommented p)) None ≡ Some part = sym (joins ∙ ap (λ t. cond joined (joining_part t) None) cut) in
      sym (line_goes_on joined first n front p part ps e) ∙ rw parts at so_far

  pub ends : (p text : List ℕ) (ps : List (List ℕ)) → left ≡ p ∷ ps → text ≡ uncommented p → None ≡ cond joined (joining_part text) None → whole ≡ record { number = first; words = front ++ words_of text } ∷ map line_of (texts_of joined (n + 1) ps)
  ends p text ps parts cut joins =
      let e : cond joined (joining_part (uncommented p)) None ≡ None = sym (joins ∙ ap (λ t. cond joined (joining_part t) None) cut) in
      rw cut (sym (rw parts at so_far) ∙ line_ends joined first n front p ps e)

-- where there are bytes, there is a line
pub first_line : (joined : Bool) (n : ℕ) (bytes : List ℕ) → 0 < length bytes → with_front n [] (map line_of (texts_of joined n (physical_lines bytes))) ≡ map line_of (texts_of joined n (physical_lines bytes))
first_line joined n bytes some = let e = physical_some bytes some in rw e.2 (no_front joined n e.0 e.1)

-- no bytes are no lines
pub no_lines : (joined : Bool) (n : ℕ) (rest : List ℕ) → rest ≡ [] → lines_from joined n rest ≡ []
unfolding texts_of physical_lines
no_lines joined n rest e = rw e refl
