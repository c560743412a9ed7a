-- What a line that is read says, one byte on and at its end.
use Rattle.std.proofs.Common.{◌≡◌, ◌⊎◌, ℕ, ◌+◌, ◌<◌, ◌≤◌, ◌&&◌, Bool, true, false, List, [], ◌∷◌, ◌++◌, length, refl, sym, ap, ◌∙◌, inl, inr, arith, append_assoc, if◌then◌else◌, nat_lt, Option, None, Some}
use Rattle.design_vectors.proofs.Vocabulary.{lt-ltb, le-ltb, append-nil, VectorKind, Char, Width, Limit, Onward, Vector, Fault}
use Rattle.design_vectors.specs.Vectors.{is_row_blank, is_comment_mark, is_line_feed, is_vector_byte, vector_size, PhysicalLine, put_before, numbered_lines, shown, byte_fault, end_fault, fault_or, line_fault, line_says, lines_say, bits_of, SaidVectors, fault_said, with_vector, nothing_said}
use Rattle.design_vectors.specs.Lines.{PartLine, IsSound, front_of, begun, says_on, SaysStep, HasRead}
use Rattle.design_vectors.proofs.TextLemmas.{lines-limit, lines-feed, lines-more, lines-end, put_before-twice, put_before-nil, first-line, shown-nil, shown-right, shown-comment, shown-blank, shown-other, unmarked, no_byte_fault, char_fault, width_fault}

-- what lines say, by what is shown of the first
says-first : (width : ℕ) (l : PhysicalLine) (ls : List PhysicalLine) (s : List ℕ) → shown l.bytes ≡ s → lines_say width (l ∷ ls) ≡ line_says width l.number l.next_at (line_fault width l.is_cut s) s (lines_say width ls)
unfolding lines_say
says-first width l ls s e = ap (λ (t : List ℕ). line_says width l.number l.next_at (line_fault width l.is_cut t) t (lines_say width ls)) e

says-none : (width : ℕ) → lines_say width [] ≡ nothing_said
unfolding lines_say
says-none width = refl

-- two beginnings of a line say the same where they show the same
says-same : (width : ℕ) (front other : List ℕ) (ls : List PhysicalLine) → ((more : List ℕ) → shown (front ++ more) ≡ shown (other ++ more)) → lines_say width (put_before front ls) ≡ lines_say width (put_before other ls)
says-same width front other [] h = refl
says-same width front other (l ∷ ls) h =
    says-first width (record l { bytes = front ++ l.bytes }) ls (shown (other ++ l.bytes)) (h l.bytes) ∙
    sym (says-first width (record l { bytes = other ++ l.bytes }) ls (shown (other ++ l.bytes)) refl)

-- a byte that doesn't end the line belongs to its beginning
says-byte : (p : PartLine) (b : ℕ) (bs : List ℕ) → p.at < p.limit → is_line_feed b ≡ false → says_on p (b ∷ bs) ≡ lines_say p.width (put_before (front_of p ++ b ∷ []) (numbered_lines p.limit p.number (p.at + 1) bs))
says-byte p b bs lt e = ap (λ (ls : List PhysicalLine). lines_say p.width (put_before (front_of p) ls)) (lines-more p.limit p.number p.at b bs lt e) ∙ ap (lines_say p.width) (put_before-twice (front_of p) (b ∷ []) (numbered_lines p.limit p.number (p.at + 1) bs))

-- the same line, a byte on
one_on : PartLine → PartLine
one_on p = record p { at = p.at + 1 }

-- a step that only goes on: what it leaves shows the same
onward : (old new : PartLine) (b : ℕ) → old.at < old.limit → is_line_feed b ≡ false → new.width ≡ old.width → new.limit ≡ old.limit → new.number ≡ old.number → new.at ≡ old.at + 1 → ((more : List ℕ) → shown ((front_of old ++ b ∷ []) ++ more) ≡ shown (front_of new ++ more)) → HasRead Onward (b ∷ []) 1 old new
onward old new b lt e w l n a h = record {
  width = w;
  limit = l;
  within = omega arith;
  at = sym a;
  room = λ _ _. omega (arith, a, l);
  whole = λ same. absurd (cc);
  full = tt;
  says = λ rest.
      says-byte old b rest lt e ∙
      says-same old.width (front_of old ++ b ∷ []) (front_of new) (numbered_lines old.limit old.number (old.at + 1) rest) h ∙
      rw (w, l, n, a) refl;
}

on-comment : (old new : PartLine) (b : ℕ) → IsSound old → old.at < old.limit → is_line_feed b ≡ false → old.in_comment ≡ true → new ≡ record old { at = old.at + 1 } → HasRead Onward (b ∷ []) 1 old new
on-comment old new b sound lt e c is =
    onward old new b lt e (rw is refl) (rw is refl) (rw is refl) (rw is refl)
    (λ more. rw (is, c) (
    ap shown (append_assoc (old.shown ++ 35 ∷ []) (b ∷ []) more ∙ append_assoc old.shown (35 ∷ []) (b ∷ more)) ∙
    shown-comment old.width old.shown (b ∷ more) sound.right ∙
    sym (ap shown (append_assoc old.shown (35 ∷ []) more) ∙ shown-comment old.width old.shown more sound.right)))

on-blank : (old new : PartLine) (b : ℕ) → IsSound old → old.at < old.limit → is_line_feed b ≡ false → is_comment_mark b ≡ false → is_row_blank b ≡ true → old.in_comment ≡ false → new ≡ record old { at = old.at + 1 } → HasRead Onward (b ∷ []) 1 old new
on-blank old new b sound lt e m h c is =
    onward old new b lt e (rw is refl) (rw is refl) (rw is refl) (rw is refl)
    (λ more. rw (is, c) (
    ap shown (append_assoc (old.shown ++ []) (b ∷ []) more ∙ append_assoc old.shown [] (b ∷ more)) ∙
    shown-blank old.width old.shown more b sound.right m h ∙
    sym (ap shown (append_assoc old.shown [] more))))

-- in a comment, or at a blank
pub on-passed : (old new : PartLine) (b : ℕ) → IsSound old → old.at < old.limit → is_line_feed b ≡ false → (old.in_comment ≡ true) ⊎ ((old.in_comment ≡ false) × (is_row_blank b ≡ true)) → new ≡ record old { at = old.at + 1 } → HasRead Onward (b ∷ []) 1 old new
on-passed old new b sound lt e (inl c) is = on-comment old new b sound lt e c is
on-passed old new b sound lt e (inr h) is = on-blank old new b sound lt e (unmarked b h.1) h.1 h.0 is

pub on-mark : (old new : PartLine) → IsSound old → old.at < old.limit → old.in_comment ≡ false → new ≡ record old { at = old.at + 1; in_comment = true } → HasRead Onward (35 ∷ []) 1 old new
on-mark old new sound lt c is =
    onward old new 35 lt refl (rw is refl) (rw is refl) (rw is refl) (rw is refl)
    (λ more. rw (is, c) (ap (λ (t : List ℕ). shown ((t ++ 35 ∷ []) ++ more)) (append-nil old.shown)))

pub on-byte : (old new : PartLine) (b : ℕ) → IsSound old → old.at < old.limit → is_line_feed b ≡ false → old.in_comment ≡ false → new ≡ record old { at = old.at + 1; shown = old.shown ++ b ∷ [] } → HasRead Onward (b ∷ []) 1 old new
on-byte old new b sound lt e c is =
    onward old new b lt e (rw is refl) (rw is refl) (rw is refl) (rw is refl)
    (λ more. rw (is, c) (ap (λ (t : List ℕ). shown (t ++ more)) (ap (λ (t : List ℕ). t ++ b ∷ []) (append-nil old.shown) ∙ sym (append-nil (old.shown ++ b ∷ [])))))

-- a byte at which a line is refused
stopped : (p : PartLine) (b : ℕ) (kind : VectorKind) → ((rest : List ℕ) → SaysStep (Fault kind) p (b ∷ rest) p rest) → HasRead (Fault kind) (b ∷ []) 1 p p
stopped p b kind says = record { width = refl; limit = refl; within = omega arith; at = tt; room = λ same _. absurd (cc); whole = λ same. absurd (cc); full = tt; says = says }

-- a fault of a byte, whatever follows on the line
faulty : (p : PartLine) (b : ℕ) (kind : VectorKind) → IsSound p → p.at < p.limit → is_line_feed b ≡ false → is_comment_mark b ≡ false → is_row_blank b ≡ false → p.in_comment ≡ false → ((more : List ℕ) → byte_fault p.width (p.shown ++ b ∷ more) ≡ Some kind) → HasRead (Fault kind) (b ∷ []) 1 p p
faulty p b kind sound lt e m h c fault = stopped p b kind (λ rest.
    let first = first-line p.limit p.number (p.at + 1) rest in (
      first.line.next_at,
      omega (arith, first.late),
      says-byte p b rest lt e ∙
          ap (λ (ls : List PhysicalLine). lines_say p.width (put_before (front_of p ++ b ∷ []) ls)) first.is ∙
          says-first p.width (record first.line { bytes = (front_of p ++ b ∷ []) ++ first.line.bytes }) first.later (p.shown ++ b ∷ shown first.line.bytes)
          (rw c (ap shown (append_assoc (p.shown ++ []) (b ∷ []) first.line.bytes ∙ append_assoc p.shown [] (b ∷ first.line.bytes)) ∙ shown-other p.width p.shown first.line.bytes b sound.right m h)) ∙
          rw (fault (shown first.line.bytes), first.numbered) refl,
    ))

pub on-wrong : (p : PartLine) (b : ℕ) → IsSound p → p.at < p.limit → is_line_feed b ≡ false → is_comment_mark b ≡ false → is_row_blank b ≡ false → p.in_comment ≡ false → is_vector_byte p.width b ≡ false → HasRead (Fault Char) (b ∷ []) 1 p p
on-wrong p b sound lt e m h c wrong = faulty p b Char sound lt e m h c (λ more. char_fault p.width b p.shown more sound.right sound.room wrong)

pub on-extra : (p : PartLine) (b : ℕ) → IsSound p → p.at < p.limit → is_line_feed b ≡ false → is_comment_mark b ≡ false → is_row_blank b ≡ false → p.in_comment ≡ false → is_vector_byte p.width b ≡ true → length p.shown ≡ vector_size p.width → HasRead (Fault Width) (b ∷ []) 1 p p
on-extra p b sound lt e m h c right full = faulty p b Width sound lt e m h c (λ more. width_fault p.width b p.shown more sound.right full right)

-- what is left of the line where it ends here
pub ended : (p : PartLine) → IsSound p → shown (front_of p ++ []) ≡ p.shown
ended p sound = by p.in_comment
  where
    by : (c : Bool) → shown ((p.shown ++ (if c then 35 ∷ [] else [])) ++ []) ≡ p.shown
    by true = ap shown (append_assoc p.shown (35 ∷ []) []) ∙ shown-comment p.width p.shown [] sound.right
    by false = ap shown (append_assoc p.shown [] []) ∙ shown-right p.width p.shown [] sound.right ∙ ap (λ (t : List ℕ). p.shown ++ t) shown-nil ∙ append-nil p.shown

-- where the line ends here, the lines after it say the rest
ends : (p : PartLine) (next_at : ℕ) (is_cut : Bool) (later : List PhysicalLine) → IsSound p → lines_say p.width (put_before (front_of p) (record { number = p.number; bytes = []; next_at = next_at; is_cut = is_cut } ∷ later)) ≡ line_says p.width p.number next_at (end_fault p.width is_cut p.shown) p.shown (lines_say p.width later)
ends p next_at is_cut later sound =
    says-first p.width (record { number = p.number; bytes = front_of p ++ []; next_at = next_at; is_cut = is_cut }) later p.shown (ended p sound) ∙
    ap (λ (f : Option VectorKind). line_says p.width p.number next_at (fault_or f (end_fault p.width is_cut p.shown)) p.shown (lines_say p.width later)) (no_byte_fault p.width p.shown sound.right sound.room)

pub on-limit : (p : PartLine) (b : ℕ) → IsSound p → p.limit ≤ p.at → HasRead (Fault Limit) (b ∷ []) 1 p p
unfolding end_fault
on-limit p b sound le = stopped p b Limit (λ rest. (p.at, omega arith, ap (λ (ls : List PhysicalLine). lines_say p.width (put_before (front_of p) ls)) (lines-limit p.limit p.number p.at b rest le) ∙ ends p p.at true [] sound))

short_fault : (width : ℕ) (s : List ℕ) → 0 < length s → length s < vector_size width → end_fault width false s ≡ Some Width
unfolding end_fault
short_fault width s some few = rw (lt-ltb 0 (length s) some, lt-ltb (length s) (vector_size width) few) refl

full_fault : (width : ℕ) (s : List ℕ) → length s ≡ vector_size width → end_fault width false s ≡ None
unfolding end_fault
full_fault width s full = rw (le-ltb (length s) (vector_size width) (omega (arith, full))) (by (nat_lt 0 (length s)))
  where
    by : (c : Bool) → (if c && false then Some Width else None) ≡ None
    by true = refl
    by false = refl

blank_fault : (width : ℕ) → end_fault width false [] ≡ None
unfolding end_fault
blank_fault width = refl

-- a whole vector at the end of its line
vector-ends : (width number next_at : ℕ) (s : List ℕ) (later : SaidVectors) → length s ≡ vector_size width → line_says width number next_at (end_fault width false s) s later ≡ with_vector (bits_of width s) next_at later
vector-ends width number next_at [] later full = absurd (omega (arith, full))
vector-ends width number next_at (b ∷ bs) later full = ap (λ (f : Option VectorKind). line_says width number next_at f (b ∷ bs) later) (full_fault width (b ∷ bs) full)

-- at the byte LF
says-feed : (p : PartLine) (rest : List ℕ) → IsSound p → p.at < p.limit → says_on p (10 ∷ rest) ≡ line_says p.width p.number (p.at + 1) (end_fault p.width false p.shown) p.shown (lines_say p.width (numbered_lines p.limit (p.number + 1) (p.at + 1) rest))
says-feed p rest sound lt = ap (λ (ls : List PhysicalLine). lines_say p.width (put_before (front_of p) ls)) (lines-feed p.limit p.number p.at rest lt) ∙ ends p (p.at + 1) false (numbered_lines p.limit (p.number + 1) (p.at + 1) rest) sound

pub feed-blank : (old new : PartLine) → IsSound old → old.at < old.limit → old.shown ≡ [] → new ≡ record old { at = old.at + 1; number = old.number + 1; in_comment = false } → HasRead Onward (10 ∷ []) 1 old new
feed-blank old new sound lt e is = record {
  width = rw is refl;
  limit = rw is refl;
  within = omega arith;
  at = rw is refl;
  room = λ _ _. rw is (omega arith);
  whole = λ same. absurd (cc);
  full = tt;
  says = λ rest.
      says-feed old rest sound lt ∙
      rw (is, e, blank_fault old.width) (sym (ap (lines_say old.width) (put_before-nil (numbered_lines old.limit (old.number + 1) (old.at + 1) rest))));
}

pub feed-vector : (old new : PartLine) → IsSound old → old.at < old.limit → length old.shown ≡ vector_size old.width → new ≡ record old { at = old.at + 1; number = old.number + 1 } → HasRead Vector (10 ∷ []) 1 old new
feed-vector old new sound lt e is = record {
  width = rw is refl;
  limit = rw is refl;
  within = omega arith;
  at = rw is refl;
  room = λ same _. absurd (cc);
  whole = λ _. (omega arith, (rw is (omega arith)));
  full = rw is e;
  says = λ rest.
      says-feed old rest sound lt ∙
      vector-ends old.width old.number (old.at + 1) old.shown (lines_say old.width (numbered_lines old.limit (old.number + 1) (old.at + 1) rest)) e ∙
      rw is (ap (λ (ls : List PhysicalLine). with_vector (bits_of old.width old.shown) (old.at + 1) (lines_say old.width ls)) (sym (put_before-nil (numbered_lines old.limit (old.number + 1) (old.at + 1) rest))));
}

pub feed-short : (p : PartLine) → IsSound p → p.at < p.limit → 0 < length p.shown → length p.shown < vector_size p.width → HasRead (Fault Width) (10 ∷ []) 1 p p
feed-short p sound lt some few = stopped p 10 Width (λ rest. (p.at + 1, omega arith, says-feed p rest sound lt ∙ rw (short_fault p.width p.shown some few) refl))

-- at the end of the file
says-end : (p : PartLine) → IsSound p → says_on p [] ≡ line_says p.width p.number p.at (end_fault p.width false p.shown) p.shown nothing_said
says-end p sound = ap (λ (ls : List PhysicalLine). lines_say p.width (put_before (front_of p) ls)) (lines-end p.limit p.number p.at) ∙ ends p p.at false [] sound ∙ ap (line_says p.width p.number p.at (end_fault p.width false p.shown) p.shown) (says-none p.width)

pub end-blank : (p : PartLine) → IsSound p → p.shown ≡ [] → says_on p [] ≡ nothing_said
end-blank p sound e = says-end p sound ∙ rw (e, blank_fault p.width) refl

pub end-vector : (p : PartLine) → IsSound p → length p.shown ≡ vector_size p.width → says_on p [] ≡ with_vector (bits_of p.width p.shown) p.at (says_on (begun p) [])
end-vector p sound e = says-end p sound ∙ vector-ends p.width p.number p.at p.shown nothing_said e ∙ ap (with_vector (bits_of p.width p.shown) p.at) (sym (end-blank (begun p) (record { right = refl; room = omega arith }) refl))

pub end-short : (p : PartLine) → IsSound p → 0 < length p.shown → length p.shown < vector_size p.width → says_on p [] ≡ fault_said p.number Width p.at
end-short p sound some few = says-end p sound ∙ rw (short_fault p.width p.shown some few) refl
