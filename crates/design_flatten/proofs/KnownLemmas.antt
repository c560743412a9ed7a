-- The signals that stand on lines have numbers.
use Rattle.std.proofs.Common.{◌≡◌, ◌+◌, ◌<◌, Bool, true, false, not, cond, ◌||◌, List, [], ◌∷◌, ◌++◌, length, map, refl, ap, ◌∙◌, arith}
use Rattle.design_flatten.proofs.Vocabulary.{list_any, flat_map, position_or_len, All, eq-eqb, and_from, or-true, All-nil, All-cons}
use Rattle.design_flatten.proofs.Vocabulary.{list_any-append, Signal, append-nil, flat_map-append, word}
use Rattle.design_flatten.specs.Vocabulary.{Part, InputPart, OutputPart, CoverPart, LatchPart, UsePart, Line, same_signal, with_signal, with_signals, signal_number, words_in, words_on, signals_of, drive_on, drives_in}
use Rattle.design_flatten.proofs.SignalsLemmas.{signals_one}

-- a place that is known stays
pub place_stays : {X : Type 0} (p : X → Bool) (xs : List X) (y : X) → list_any p xs ≡ true → position_or_len p (xs ++ y ∷ []) ≡ position_or_len p xs
place_stays p [] y h = absurd cc
place_stays p (x ∷ xs) y h = by (p x) h (place_stays p xs y)
  where
    by : (b : Bool) → (b || list_any p xs) ≡ true → (list_any p xs ≡ true → position_or_len p (xs ++ y ∷ []) ≡ position_or_len p xs) → cond (not b) (1 + position_or_len p (xs ++ y ∷ [])) 0 ≡ cond (not b) (1 + position_or_len p xs) 0
    by true h rest = refl
    by false h rest = ap (λ n. 1 + n) (rest h)

any_place : {X : Type 0} (p : X → Bool) (xs : List X) → list_any p xs ≡ true → position_or_len p xs < length xs
any_place p [] h = absurd cc
any_place p (x ∷ xs) h = by (p x) h (any_place p xs)
  where
    by : (b : Bool) → (b || list_any p xs) ≡ true → (list_any p xs ≡ true → position_or_len p xs < length xs) → cond (not b) (1 + position_or_len p xs) 0 < length (x ∷ xs)
    by true h later = omega arith
    by false h later = let lt = later h in omega arith

pub same_self : (s : Signal) → same_signal s s ≡ true
same_self s = and_from _ _ (eq-eqb s.used s.used refl) (eq-eqb s.own s.own refl)

abbrev pub IsKnown : List Signal → Signal → Type 0
IsKnown signals s = list_any (same_signal s) signals ≡ true

abbrev pub AreKnown : List Signal → List Signal → Type 0
AreKnown signals [] = Unit {0}
AreKnown signals (w ∷ words) = IsKnown signals w × AreKnown signals words

pub number_below : (signals : List Signal) (s : Signal) → IsKnown signals s → signal_number signals s < length signals
number_below signals s h = any_place (same_signal s) signals h

still : (signals : List Signal) (s t : Signal) → IsKnown signals t → IsKnown (with_signal signals s) t
still signals s t h = by (list_any (same_signal s) signals)
  where
    by : (b : Bool) → IsKnown (cond b signals (signals ++ s ∷ [])) t
    by true = h
    by false = list_any-append (same_signal t) signals (s ∷ []) ∙ ap (λ b. b || list_any (same_signal t) (s ∷ [])) h

newly : (signals : List Signal) (s : Signal) → IsKnown (with_signal signals s) s
newly signals s = by (list_any (same_signal s) signals) refl
  where
    by : (b : Bool) → list_any (same_signal s) signals ≡ b → IsKnown (cond b signals (signals ++ s ∷ [])) s
    by true h = h
    by false h = list_any-append (same_signal s) signals (s ∷ []) ∙ ap (λ b. list_any (same_signal s) signals || (b || false)) (same_self s) ∙ or-true (list_any (same_signal s) signals)

number_one : (signals : List Signal) (x s : Signal) → IsKnown signals s → signal_number (with_signal signals x) s ≡ signal_number signals s
number_one signals x s h = by (list_any (same_signal x) signals)
  where
    by : (b : Bool) → signal_number (cond b signals (signals ++ x ∷ [])) s ≡ signal_number signals s
    by true = refl
    by false = place_stays (same_signal s) signals x h

-- a signal keeps its number
number_stays : (more signals : List Signal) (s : Signal) → IsKnown signals s → signal_number (with_signals signals more) s ≡ signal_number signals s
number_stays [] signals s h = refl
number_stays (x ∷ more) signals s h = number_stays more (with_signal signals x) s (still signals x s h) ∙ number_one signals x s h

still_all : (words signals : List Signal) (t : Signal) → IsKnown signals t → IsKnown (with_signals signals words) t
still_all [] signals t h = h
still_all (w ∷ words) signals t h = still_all words (with_signal signals w) t (still signals w t h)

all_known : (words signals : List Signal) → AreKnown (with_signals signals words) words
all_known [] signals = tt
all_known (w ∷ words) signals = (still_all words (with_signal signals w) w (newly signals w), all_known words (with_signal signals w))

-- each signal on the lines has a number
pub lines_known : (lines : List (Line Signal)) → AreKnown (signals_of lines) (flat_map words_on lines)
lines_known lines = all_known (flat_map words_on lines) []

pub known_split : (signals xs ys : List Signal) → AreKnown signals (xs ++ ys) → AreKnown signals xs × AreKnown signals ys
known_split signals [] ys h = (tt, h)
known_split signals (x ∷ xs) ys h = let p = known_split signals xs ys h.1 in ((h.0, p.0), p.1)

pub numbers_below : (signals words : List Signal) → AreKnown signals words → All (λ k. k < length signals) (map (signal_number signals) words)
numbers_below signals [] h = All-nil (λ k. k < length signals)
numbers_below signals (w ∷ words) h = All-cons (λ k. k < length signals) (signal_number signals w) (map (signal_number signals) words) (number_below signals w h.0) (numbers_below signals words h.1)

-- ---- the words that drive, with a line more

drive_stays : (signals more : List Signal) (l : Line Signal) → AreKnown signals (words_on l) → drive_on (with_signals signals more) l ≡ drive_on signals l
drive_stays signals more l h = by l.part h
  where
    stays : (s : Signal) → IsKnown signals s → word l.number (signal_number (with_signals signals more) s) ∷ [] ≡ word l.number (signal_number signals s) ∷ []
    stays s h = ap (λ k. word l.number k ∷ []) (number_stays more signals s h)

    by : (p : Part Signal) → AreKnown signals (words_in p) → drive_on (with_signals signals more) (record { number = l.number; part = p }) ≡ drive_on signals (record { number = l.number; part = p })
    by (InputPart s) h = stays s h.0
    by (OutputPart s) h = refl
    by (CoverPart out ins rows off) h = stays out (known_split signals ins (out ∷ []) h).1.0
    by (LatchPart from out init control) h = stays out h.1.0
    by (UsePart m pairs way) h = refl

drives_stay : (signals more : List Signal) (lines : List (Line Signal)) → AreKnown signals (flat_map words_on lines) → flat_map (drive_on (with_signals signals more)) lines ≡ flat_map (drive_on signals) lines
drives_stay signals more [] h = refl
drives_stay signals more (l ∷ lines) h =
    let both = known_split signals (words_on l) (flat_map words_on lines) h in
    (λ i. drive_stays signals more l both.0 i ++ drives_stay signals more lines both.1 i)

pub flat_one : {A : Type 0} (f : Line Signal → List A) (lines : List (Line Signal)) (l : Line Signal) → flat_map f (lines ++ l ∷ []) ≡ flat_map f lines ++ f l
flat_one f lines l = flat_map-append f lines (l ∷ []) ∙ ap (λ xs. flat_map f lines ++ xs) (append-nil (f l))

pub drives_one : (lines : List (Line Signal)) (l : Line Signal) → drives_in (lines ++ l ∷ []) ≡ drives_in lines ++ drive_on (signals_of (lines ++ l ∷ [])) l
drives_one lines l =
    let all = signals_of (lines ++ l ∷ []) in
    let same : flat_map (drive_on all) lines ≡ drives_in lines = ap (λ ss. flat_map (drive_on ss) lines) (signals_one lines l) ∙ drives_stay (signals_of lines) (words_on l) lines (lines_known lines) in
    flat_one (drive_on all) lines l ∙ ap (λ xs. xs ++ drive_on all l) same
