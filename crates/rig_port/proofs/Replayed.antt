-- Lines of a recorded talk.
use Rattle.std.proofs.Common.{◌≡◌, ◌≢◌, ℕ, suc, ◌+◌, ◌-◌, ◌^◌, ◌≤◌, ◌<◌, min, List, [], ◌∷◌, ◌++◌, take, drop, length, get_or, All, None, Some, refl, sym, ap, ◌∙◌, arith, subst}
use Rattle.std.proofs.lemmas.List.{append-nil, append_assoc, drop-drop, length-append, length-drop, length-take-le, take-append-drop, take_all}
use Rattle.rig_port.proofs.Vocabulary.{IsLine, HasReplayed, IsDue, BeginsWith, recorded_of, Said, Sent, answered, and_said, and_sent, flat_map-append}
use Rattle.rig_port.proofs.Behind.{answered_more}

abbrev AreInner : List ℕ → Type 0
AreInner bytes = All (λ byte. byte ≢ 10) bytes

tails : (x : ℕ) (xs : List ℕ) → AreInner (x ∷ xs) → AreInner xs
tails x xs all k e lt = all (suc k) e (omega (arith, lt))

-- where a line ends in two ways it is one
cut_end : (f g r s : List ℕ) → AreInner f → AreInner g → f ++ 10 ∷ r ≡ g ++ 10 ∷ s → (f ≡ g) × (r ≡ s)
cut_end [] [] r s a b e = (refl, ap (drop 1) e)
cut_end [] (y ∷ g) r s a b e = absurd (b 0 0 (omega arith) (sym (ap (λ l. get_or l 0 0) e)))
cut_end (x ∷ f) [] r s a b e = absurd (a 0 0 (omega arith) (ap (λ l. get_or l 0 0) e))
cut_end (x ∷ f) (y ∷ g) r s a b e =
    let heads : x ≡ y = ap (λ l. get_or l 0 0) e in
    let rest = cut_end f g r s (tails x f a) (tails y g b) (ap (drop 1) e) in
    (ap (λ z. z ∷ f) heads ∙ ap (λ l. y ∷ l) rest.0, rest.1)

whole_line : (line rest : List ℕ) (is : IsLine line) → line ++ rest ≡ is.front ++ 10 ∷ rest
whole_line line rest is = ap (λ l. l ++ rest) is.bytes_are ∙ append_assoc is.front (10 ∷ []) rest

pub one_line : (a b r s : List ℕ) → IsLine a → IsLine b → a ++ r ≡ b ++ s → (a ≡ b) × (r ≡ s)
one_line a b r s is at e =
    let parts = cut_end is.front at.front r s is.one at.one (sym (whole_line a r is) ∙ e ∙ whole_line b s at) in
    (is.bytes_are ∙ ap (λ l. l ++ 10 ∷ []) parts.0 ∙ sym at.bytes_are, parts.1)

has_end : (front rest : List ℕ) → get_or (front ++ 10 ∷ rest) (length front) 0 ≡ 10
has_end [] rest = refl
has_end (x ∷ front) rest = has_end front rest

pub no_line : (bytes line rest : List ℕ) → AreInner bytes → IsLine line → bytes ≡ line ++ rest → ⊥
no_line bytes line rest all is e =
    let same : bytes ≡ is.front ++ 10 ∷ rest = e ∙ whole_line line rest is in
    let within : length is.front < length bytes = omega (arith, ap length same, length-append is.front (10 ∷ rest)) in
    all (length is.front) 0 within (ap (λ l. get_or l (length is.front) 0) same ∙ has_end is.front rest)

pub none_at_end : (k : ℕ) (bytes line rest : List ℕ) → length bytes ≤ k → AreInner (take k bytes) → IsLine line → bytes ≡ line ++ rest → ⊥
none_at_end k bytes line rest all inner is e = no_line bytes line rest (subst AreInner (take_all k bytes all) inner) is e

-- the line that stands in front is the one that was found
pub line_found : (n : ℕ) (bytes line rest : List ℕ) → IsLine (take n bytes) → IsLine line → bytes ≡ line ++ rest → take n bytes ≡ line
line_found n bytes line rest found is e = (one_line (take n bytes) line (drop n bytes) rest found is (take-append-drop n bytes ∙ e)).0

pub too_long : (n room : ℕ) (bytes line rest : List ℕ) → n ≤ length bytes → IsLine (take n bytes) → room < n → IsLine line → length line ≤ room → bytes ≡ line ++ rest → ⊥
too_long n room bytes line rest within found long is few e =
    let same : length line ≡ n = sym (ap length (line_found n bytes line rest found is e)) ∙ length-take-le n bytes within in
    let no : ⊥ = omega (arith, same, few, long) in no

pub next_is : (n : ℕ) (bytes request : List ℕ) → n ≤ length bytes → IsLine (take n bytes) → take n bytes ≡ request → IsLine request × (bytes ≡ request ++ drop (length request) bytes)
next_is n bytes request within found is =
    let many : length request ≡ n = sym (ap length is) ∙ length-take-le n bytes within in
    (subst IsLine is found, sym (take-append-drop n bytes) ∙ ap (λ l. l ++ drop n bytes) is ∙ ap (λ k. request ++ drop k bytes) (sym many))

drop_more : (a b : ℕ) (bytes : List ℕ) → drop b (drop a bytes) ≡ drop (a + b) bytes
drop_more a b bytes = drop-drop b a bytes

some_bytes : (request : List ℕ) → IsLine request → 0 < length request
some_bytes request is = omega (arith, ap length is.bytes_are, length-append is.front (10 ∷ []))

-- where a request ends that stands at a place
next_place : (at next : ℕ) (recorded request : List ℕ) → IsLine request → drop at recorded ≡ request ++ drop (length request) (drop at recorded) → next ≡ min (at + length request) (2 ^ 64 - 1)
    → length recorded < 2 ^ 63 → next ≡ at + length request
next_place at next recorded request asked here there_is small =
    omega (arith, there_is, some_bytes request asked, ap length here, length-append request (drop (length request) (drop at recorded)), length-drop at recorded, small)

-- a request that stands at a place, and the line behind it
pub replayed : (at next end count : ℕ) (recorded request line : List ℕ) → IsLine request → drop at recorded ≡ request ++ drop (length request) (drop at recorded) → next ≡ min (at + length request) (2 ^ 64 - 1)
    → end ≡ min (next + count) (2 ^ 64 - 1) → length recorded < 2 ^ 63 → line ≡ take count (drop next recorded) → count ≤ length (drop next recorded) → IsLine line → HasReplayed (drop at recorded) (drop end recorded) request line
replayed at next end count recorded request line asked here there_is end_is small line_is within replied = record { asked = asked; replied = replied; left = left } where
  there : next ≡ at + length request
  there = next_place at next recorded request asked here there_is small

  then_is : end ≡ next + count
  then_is = omega (arith, end_is, there, within, length-drop next recorded, small)

  behind : drop (length request) (drop at recorded) ≡ drop next recorded
  behind = drop_more at (length request) recorded ∙ ap (λ k. drop k recorded) (sym there)

  left : drop at recorded ≡ request ++ line ++ drop end recorded
  left =
      here ∙ ap (λ l. request ++ l) (behind ∙ sym (take-append-drop count (drop next recorded)) ∙ ap (λ l. l ++ drop count (drop next recorded)) (sym line_is)
      ∙ ap (λ l. line ++ l) (drop_more next count recorded ∙ ap (λ k. drop k recorded) (sym then_is)))
      ∙ sym (append_assoc request line (drop end recorded))

pub not_next : (bytes request : List ℕ) (room : ℕ) → ((rest : List ℕ) → IsLine request → bytes ≡ request ++ rest → ⊥) → IsDue bytes request room → ⊥
not_next bytes request room other d = other (d.line ++ d.rest) d.asked (d.left_is ∙ append_assoc request d.line d.rest)

pub no_reply : (at next : ℕ) (recorded request : List ℕ) (room : ℕ) → IsLine request → drop at recorded ≡ request ++ drop (length request) (drop at recorded) → next ≡ min (at + length request) (2 ^ 64 - 1)
    → length recorded < 2 ^ 63 → ((line rest : List ℕ) → IsLine line → length line ≤ room → drop next recorded ≡ line ++ rest → ⊥) → IsDue (drop at recorded) request room → ⊥
no_reply at next recorded request room asked here there_is small other d =
    let there = next_place at next recorded request asked here there_is small in
    let parts = one_line request request (drop (length request) (drop at recorded)) (d.line ++ d.rest) asked d.asked (sym here ∙ d.left_is ∙ append_assoc request d.line d.rest) in
    other d.line d.rest d.replied d.few (ap (λ k. drop k recorded) there ∙ sym (drop_more at (length request) recorded) ∙ parts.1)

recorded_more : (talk : List Said) (request line : List ℕ) → recorded_of (and_said talk request line) ≡ recorded_of talk ++ (request ++ line)
recorded_more talk request line =
    flat_map-append (λ (s : Said). s.request ++ s.line) talk (record { request = request; line = line } ∷ [])
    ∙ ap (λ t. recorded_of talk ++ t) (append-nil (request ++ line))

-- what was said of a recording is its beginning
pub begun_more : (recorded : List ℕ) (at end : ℕ) (talk now : List Sent) (request line : List ℕ) → HasReplayed (drop at recorded) (drop end recorded) request line
    → now ≡ and_sent talk request (Some line) → BeginsWith recorded at talk → BeginsWith recorded end now
begun_more recorded at end talk now request line h is b =
    let said = answered talk in
    let all : answered now ≡ and_said said request line = ap answered is ∙ answered_more talk (record { request = request; line = Some line } ∷ []) in
    b ∙ ap (λ t. recorded_of said ++ t) h.left ∙ sym (append_assoc (recorded_of said) (request ++ line) (drop end recorded))
    ∙ ap (λ t. t ++ drop end recorded) (sym (recorded_more said request line) ∙ ap recorded_of (sym all))

-- a request that wasn't answered leaves it so
pub begun_still : (recorded : List ℕ) (at : ℕ) (talk now : List Sent) (request : List ℕ) → now ≡ and_sent talk request None → BeginsWith recorded at talk → BeginsWith recorded at now
begun_still recorded at talk now request is b =
    let all : answered now ≡ answered talk = ap answered is ∙ answered_more talk (record { request = request; line = None } ∷ []) ∙ append-nil (answered talk) in
    b ∙ ap (λ t. recorded_of t ++ drop at recorded) (sym all)
