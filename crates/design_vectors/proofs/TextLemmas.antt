-- Physical lines of a text, and what is shown of one that begins with bytes of a vector.
use Rattle.std.proofs.Common.{◌≡◌, ℕ, ◌+◌, ◌<◌, ◌≤◌, ◌||◌, ◌==◌, Bool, true, false, List, [], ◌∷◌, ◌++◌, length, refl, sym, ap, subst, ◌∙◌, arith, append_assoc, not, cond, if◌then◌else◌, nat_le, filter, take_while, None, Some}
use Rattle.std.specs.List.{list_all, before_first}
use Rattle.design_vectors.proofs.Vocabulary.{le-leb, lt-leb, eqb-true, lt-ltb, le-ltb, and_parts, length-append, append-nil, Char, Width}
use Rattle.std.proofs.lemmas.List.Sums.{take_while-cons}
use Rattle.design_vectors.specs.Vectors.{is_row_blank, is_comment_mark, is_line_feed, is_vector_byte, vector_size, PhysicalLine, put_before, numbered_lines, shown, byte_fault}

-- physical lines

pub lines-limit : (limit number at b : ℕ) (bs : List ℕ) → limit ≤ at → numbered_lines limit number at (b ∷ bs) ≡ record { number = number; bytes = []; next_at = at; is_cut = true } ∷ []
unfolding numbered_lines
lines-limit limit number at b bs le = rw (le-leb limit at le) refl

pub lines-feed : (limit number at : ℕ) (bs : List ℕ) → at < limit → numbered_lines limit number at (10 ∷ bs) ≡ record { number = number; bytes = []; next_at = at + 1; is_cut = false } ∷ numbered_lines limit (number + 1) (at + 1) bs
unfolding numbered_lines
lines-feed limit number at bs lt = rw (lt-leb limit at lt) refl

pub lines-more : (limit number at b : ℕ) (bs : List ℕ) → at < limit → is_line_feed b ≡ false → numbered_lines limit number at (b ∷ bs) ≡ put_before (b ∷ []) (numbered_lines limit number (at + 1) bs)
unfolding numbered_lines
lines-more limit number at b bs lt e = rw (lt-leb limit at lt, e) refl

pub lines-end : (limit number at : ℕ) → numbered_lines limit number at [] ≡ record { number = number; bytes = []; next_at = at; is_cut = false } ∷ []
unfolding numbered_lines
lines-end limit number at = refl

pub put_before-twice : (xs ys : List ℕ) (ls : List PhysicalLine) → put_before xs (put_before ys ls) ≡ put_before (xs ++ ys) ls
put_before-twice xs ys [] = refl
put_before-twice xs ys (l ∷ ls) = ap (λ (bytes : List ℕ). record l { bytes = bytes } ∷ ls) (sym (append_assoc xs ys l.bytes))

pub put_before-nil : (ls : List PhysicalLine) → put_before [] ls ≡ ls
put_before-nil [] = refl
put_before-nil (l ∷ ls) = refl

-- a text has a first line, with the number that it was given, which doesn't end before this place
pub record HasFirst (number at : ℕ) (lines : List PhysicalLine) : Type 0 where
  pub line : PhysicalLine
  pub later : List PhysicalLine
  pub is : lines ≡ line ∷ later
  pub numbered : line.number ≡ number
  pub late : at ≤ line.next_at

put_before-first : (number at : ℕ) (front : List ℕ) (lines : List PhysicalLine) → HasFirst number (at + 1) lines → HasFirst number at (put_before front lines)
put_before-first number at front lines h = record {
  line = record h.line { bytes = front ++ h.line.bytes };
  later = h.later;
  is = ap (put_before front) h.is;
  numbered = h.numbered;
  late = omega (arith, h.late);
}

pub first-line : (limit number at : ℕ) (bs : List ℕ) → HasFirst number at (numbered_lines limit number at bs)
unfolding numbered_lines
first-line limit number at [] = record { line = record { number = number; bytes = []; next_at = at; is_cut = false }; later = []; is = refl; numbered = refl; late = omega arith }
first-line limit number at (b ∷ bs) = by (nat_le limit at) (is_line_feed b) (first-line limit number (at + 1) bs)
  where
    by : (c d : Bool) → HasFirst number (at + 1) (numbered_lines limit number (at + 1) bs) → HasFirst number at (if c then record { number = number; bytes = []; next_at = at; is_cut = true } ∷ [] else if d then record { number = number; bytes = []; next_at = at + 1; is_cut = false } ∷ numbered_lines limit (number + 1) (at + 1) bs else put_before (b ∷ []) (numbered_lines limit number (at + 1) bs))
    by true d h = record { line = record { number = number; bytes = []; next_at = at; is_cut = true }; later = []; is = refl; numbered = refl; late = omega arith }
    by false true h = record { line = record { number = number; bytes = []; next_at = at + 1; is_cut = false }; later = numbered_lines limit (number + 1) (at + 1) bs; is = refl; numbered = refl; late = omega arith }
    by false false h = put_before-first number at (b ∷ []) (numbered_lines limit number (at + 1) bs) h

-- what is shown

pub shown-cons : (b : ℕ) (bs : List ℕ) → shown (b ∷ bs) ≡ (if is_comment_mark b then [] else if is_row_blank b then shown bs else b ∷ shown bs)
unfolding shown
shown-cons b bs = ap (filter (λ x. not (is_row_blank x))) (take_while-cons (λ x. not (is_comment_mark x)) b bs) ∙ by (is_comment_mark b) (is_row_blank b) (before_first is_comment_mark bs) refl
  where
    by : (c d : Bool) (rest : List ℕ) → is_row_blank b ≡ d → filter (λ x. not (is_row_blank x)) (cond (not c) (b ∷ rest) []) ≡ (if c then [] else if d then filter (λ x. not (is_row_blank x)) rest else b ∷ filter (λ x. not (is_row_blank x)) rest)
    by true d rest e = refl
    by false true rest e = rw e refl
    by false false rest e = rw e refl

pub shown-nil : shown [] ≡ []
unfolding shown
shown-nil = refl

-- a byte of a vector is neither a blank nor the mark of a comment
plain_byte : (width b : ℕ) → is_vector_byte width b ≡ true → (is_comment_mark b ≡ false) × (is_row_blank b ≡ false)
plain_byte width b e = by (width == 0) (b == 46) (b == 48) (b == 49) refl refl refl e
  where
    at : (c : ℕ) → (b == c) ≡ true → (is_comment_mark c ≡ false) × (is_row_blank c ≡ false) → (is_comment_mark b ≡ false) × (is_row_blank b ≡ false)
    at c f h = let P : ℕ → Type 0 = λ n. (is_comment_mark n ≡ false) × (is_row_blank n ≡ false) in subst P (sym (eqb-true b c f)) h

    by : (u x y z : Bool) → (b == 46) ≡ x → (b == 48) ≡ y → (b == 49) ≡ z → (if u then x else y || z) ≡ true → (is_comment_mark b ≡ false) × (is_row_blank b ≡ false)
    by true x y z ex ey ez f = at 46 (ex ∙ f) (refl, refl)
    by false x true z ex ey ez f = at 48 ey (refl, refl)
    by false x false z ex ey ez f = at 49 (ez ∙ f) (refl, refl)

pub unmarked : (b : ℕ) → is_row_blank b ≡ true → is_comment_mark b ≡ false
unmarked b e = by (b == 32) (b == 9) (b == 13) refl refl refl e
  where
    at : (c : ℕ) → (b == c) ≡ true → is_comment_mark c ≡ false → is_comment_mark b ≡ false
    at c f h = let P : ℕ → Type 0 = λ n. is_comment_mark n ≡ false in subst P (sym (eqb-true b c f)) h

    by : (x y z : Bool) → (b == 32) ≡ x → (b == 9) ≡ y → (b == 13) ≡ z → (x || y || z) ≡ true → is_comment_mark b ≡ false
    by true y z ex ey ez f = at 32 ex refl
    by false true z ex ey ez f = at 9 ey refl
    by false false z ex ey ez f = at 13 (ez ∙ f) refl

-- bytes of a vector, one after the other
abbrev pub AreRight : ℕ → List ℕ → Type 0
AreRight width bytes = list_all (is_vector_byte width) bytes ≡ true

pub shown-right : (width : ℕ) (s more : List ℕ) → AreRight width s → shown (s ++ more) ≡ s ++ shown more
shown-right width [] more h = refl
shown-right width (b ∷ bs) more h =
    let parts = and_parts (is_vector_byte width b) (list_all (is_vector_byte width) bs) h in
    let plain = plain_byte width b parts.0 in
    shown-cons b (bs ++ more) ∙ rw (plain.0, plain.1) (ap (λ (t : List ℕ). b ∷ t) (shown-right width bs more parts.1))

-- what a comment follows is all that is shown
pub shown-comment : (width : ℕ) (s more : List ℕ) → AreRight width s → shown (s ++ 35 ∷ more) ≡ s
shown-comment width s more h = shown-right width s (35 ∷ more) h ∙ ap (λ (t : List ℕ). s ++ t) (shown-cons 35 more) ∙ append-nil s

pub shown-blank : (width : ℕ) (s more : List ℕ) (b : ℕ) → AreRight width s → is_comment_mark b ≡ false → is_row_blank b ≡ true → shown (s ++ b ∷ more) ≡ shown (s ++ more)
shown-blank width s more b h m e = shown-right width s (b ∷ more) h ∙ ap (λ (t : List ℕ). s ++ t) (shown-cons b more ∙ rw (m, e) refl) ∙ sym (shown-right width s more h)

pub shown-other : (width : ℕ) (s more : List ℕ) (b : ℕ) → AreRight width s → is_comment_mark b ≡ false → is_row_blank b ≡ false → shown (s ++ b ∷ more) ≡ s ++ b ∷ shown more
shown-other width s more b h m e = shown-right width s (b ∷ more) h ∙ ap (λ (t : List ℕ). s ++ t) (shown-cons b more ∙ rw (m, e) refl)

-- faults

take-right : (width : ℕ) (s t : List ℕ) → AreRight width s → take_while (is_vector_byte width) (s ++ t) ≡ s ++ take_while (is_vector_byte width) t
take-right width [] t h = refl
take-right width (b ∷ bs) t h =
    let parts = and_parts (is_vector_byte width b) (list_all (is_vector_byte width) bs) h in
    take_while-cons (is_vector_byte width) b (bs ++ t) ∙ rw parts.0 (ap (λ (r : List ℕ). b ∷ r) (take-right width bs t parts.1))

pub no_byte_fault : (width : ℕ) (s : List ℕ) → AreRight width s → length s ≤ vector_size width → byte_fault width s ≡ None
unfolding byte_fault
no_byte_fault width s h room =
    let all : take_while (is_vector_byte width) s ≡ s = ap (take_while (is_vector_byte width)) (sym (append-nil s)) ∙ take-right width s [] h ∙ append-nil s in
    rw (all, le-ltb (vector_size width) (length s) room, le-ltb (length s) (length s) (omega arith)) refl

pub char_fault : (width b : ℕ) (s t : List ℕ) → AreRight width s → length s ≤ vector_size width → is_vector_byte width b ≡ false → byte_fault width (s ++ b ∷ t) ≡ Some Char
unfolding byte_fault
char_fault width b s t h room e =
    let front : take_while (is_vector_byte width) (s ++ b ∷ t) ≡ s = take-right width s (b ∷ t) h ∙ ap (λ (r : List ℕ). s ++ r) (take_while-cons (is_vector_byte width) b t ∙ rw e refl) ∙ append-nil s in
    let longer : length s < length (s ++ b ∷ t) = omega (arith, length-append s (b ∷ t)) in
    rw (front, le-ltb (vector_size width) (length s) room, lt-ltb (length s) (length (s ++ b ∷ t)) longer) refl

pub width_fault : (width b : ℕ) (s t : List ℕ) → AreRight width s → length s ≡ vector_size width → is_vector_byte width b ≡ true → byte_fault width (s ++ b ∷ t) ≡ Some Width
unfolding byte_fault
width_fault width b s t h full e =
    let front : take_while (is_vector_byte width) (s ++ b ∷ t) ≡ s ++ b ∷ take_while (is_vector_byte width) t = take-right width s (b ∷ t) h ∙ ap (λ (r : List ℕ). s ++ r) (take_while-cons (is_vector_byte width) b t ∙ rw e refl) in
    let longer : vector_size width < length (s ++ b ∷ take_while (is_vector_byte width) t) = omega (arith, length-append s (b ∷ take_while (is_vector_byte width) t), full) in
    rw (front, lt-ltb (vector_size width) (length (s ++ b ∷ take_while (is_vector_byte width) t)) longer) refl
