-- Signals by first appearance.
use Rattle.std.proofs.Common.{◌≡◌, ℕ, ◌+◌, ◌<◌, ◌≤◌, Bool, true, false, cond, nat_lt, List, [], ◌∷◌, ◌++◌, length, refl, sym, ap, ◌∙◌, arith, append_assoc, zero-add, length-append, inl, inr, not, Some, None, position}
use Rattle.design_flatten.proofs.Vocabulary.{list_any, flat_map, append-nil, sum_by-append, or-true, Signal, Refusal, Memory, Limit}
use Rattle.std.proofs.lemmas.Bool.{lt-ltb, ltb-true, ltb-false, or_cases}
use Rattle.design_flatten.specs.Vocabulary.{Line, IsPast, IsOver, same_signal, with_signal, with_signals, words_on, signals_of, size_in, size_of, is_over, signal_number}

with_signal-longer : (signals : List Signal) (s : Signal) → length signals ≤ length (with_signal signals s)
with_signal-longer signals s = by (list_any (same_signal s) signals)
  where
    by : (b : Bool) → length signals ≤ length (cond b signals (signals ++ s ∷ []))
    by true = omega arith
    by false = omega (arith, length-append signals (s ∷ []))

pub with_signals-longer : (more signals : List Signal) → length signals ≤ length (with_signals signals more)
with_signals-longer [] signals = omega arith
with_signals-longer (s ∷ more) signals = omega (arith, with_signal-longer signals s, with_signals-longer more (with_signal signals s))

pub with_signals-append : (more rest signals : List Signal) → with_signals signals (more ++ rest) ≡ with_signals (with_signals signals more) rest
with_signals-append [] rest signals = refl
with_signals-append (s ∷ more) rest signals = with_signals-append more rest (with_signal signals s)

words-append : (xs ys : List (Line Signal)) → flat_map words_on (xs ++ ys) ≡ flat_map words_on xs ++ flat_map words_on ys
words-append [] ys = refl
words-append (x ∷ xs) ys = rw (words-append xs ys) (sym (append_assoc (words_on x) (flat_map words_on xs) (flat_map words_on ys)))

pub signals_of-append : (xs ys : List (Line Signal)) → signals_of (xs ++ ys) ≡ with_signals (signals_of xs) (flat_map words_on ys)
signals_of-append xs ys = ap (with_signals []) (words-append xs ys) ∙ with_signals-append (flat_map words_on xs) (flat_map words_on ys) []

pub size_of-append : (xs ys : List (Line Signal)) → size_of (xs ++ ys) ≡ size_of xs + size_of ys
size_of-append xs ys = sum_by-append (λ l. size_in l.part) xs ys

pub over_by_signals : (xs : List (Line Signal)) → 65535 < length (signals_of xs) → is_over xs ≡ true
over_by_signals xs lt = let t : nat_lt 65535 (length (signals_of xs)) ≡ true = lt-ltb _ _ lt in rw t refl

pub over_by_size : (xs : List (Line Signal)) → 16777216 < size_of xs → is_over xs ≡ true
over_by_size xs lt = let t : nat_lt 16777216 (size_of xs) ≡ true = lt-ltb _ _ lt in rw t (or-true (nat_lt 65535 (length (signals_of xs))))

-- more lines don't bring it back
pub over_more : (xs ys : List (Line Signal)) → is_over xs ≡ true → is_over (xs ++ ys) ≡ true
over_more xs ys h = elim (or_cases (nat_lt 65535 (length (signals_of xs))) (nat_lt 16777216 (size_of xs)) h) [
  | inl a ↦ over_by_signals (xs ++ ys) (omega (arith, ltb-true _ _ a, ap length (signals_of-append xs ys), with_signals-longer (flat_map words_on ys) (signals_of xs)))
  | inr b ↦ over_by_size (xs ++ ys) (omega (arith, ltb-true _ _ b, size_of-append xs ys))
]

pub signals_one : (xs : List (Line Signal)) (l : Line Signal) → signals_of (xs ++ l ∷ []) ≡ with_signals (signals_of xs) (words_on l)
signals_one xs l = signals_of-append xs (l ∷ []) ∙ ap (with_signals (signals_of xs)) (append-nil (words_on l))

pub size_one : (xs : List (Line Signal)) (l : Line Signal) → size_of (xs ++ l ∷ []) ≡ size_of xs + size_in l.part
size_one xs l = size_of-append xs (l ∷ []) ∙ ap (λ n. size_of xs + n) (zero-add (size_in l.part))

-- ---- refusals

pub past_more : (e : Refusal) (now start all : List Signal) (s : Signal) (rest signals : List Signal) → with_signals now signals ≡ with_signals start all → signals ≡ s ∷ rest → IsPast (with_signal now s) e → IsPast (with_signals start all) e
past_more Memory now start all s rest signals e d h = tt
past_more Limit now start all s rest signals e d h =
    let same : with_signals (with_signal now s) rest ≡ with_signals start all = ap (with_signals now) (sym d) ∙ e in
    omega (arith, h, ap length same, with_signals-longer rest (with_signal now s))

-- past in front is past
pub past_front : (e : Refusal) (front back start : List Signal) → IsPast (with_signals start front) e → IsPast (with_signals start (front ++ back)) e
past_front Memory front back start h = tt
past_front Limit front back start h = omega (arith, h, ap length (with_signals-append front back start), with_signals-longer back (with_signals start front))

pub past_line : (e : Refusal) (signals : List Signal) (xs : List (Line Signal)) (l : Line Signal) → signals ≡ signals_of xs → IsPast (with_signals signals (words_on l)) e → IsOver (xs ++ l ∷ []) e
past_line Memory signals xs l d h = tt
past_line Limit signals xs l d h =
    over_by_signals (xs ++ l ∷ []) (omega (arith, h, ap (λ ss. length (with_signals ss (words_on l))) d, ap length (signals_one xs l)))

pub past_size : (n : ℕ) (xs : List (Line Signal)) (l : Line Signal) → n ≡ size_of xs → 16777216 < n + size_in l.part → is_over (xs ++ l ∷ []) ≡ true
past_size n xs l d h = over_by_size (xs ++ l ∷ []) (omega (arith, size_one xs l))

-- ---- numbers

number_of-le : (s : Signal) (signals : List Signal) → signal_number signals s ≤ length signals
number_of-le s [] = omega arith
number_of-le s (t ∷ signals) = by (same_signal s t) (number_of-le s signals)
  where
    by : (b : Bool) → signal_number signals s ≤ length signals → cond (not b) (1 + signal_number signals s) 0 ≤ length (t ∷ signals)
    by true le = omega arith
    by false le = omega arith

pub absent_number : (s : Signal) (signals : List Signal) → position (same_signal s) signals ≡ None → length signals ≡ signal_number signals s
absent_number s signals e = by (nat_lt (signal_number signals s) (length signals)) refl e
  where
    by : (b : Bool) → nat_lt (signal_number signals s) (length signals) ≡ b → cond b (Some (signal_number signals s)) None ≡ None → length signals ≡ signal_number signals s
    by true t h = absurd cc
    by false t h = omega (arith, ltb-false _ _ t, number_of-le s signals)

-- what is over in front is over
pub over_front : (e : Refusal) (all front back : List (Line Signal)) → all ≡ front ++ back → IsOver front e → IsOver all e
over_front Memory all front back is h = tt
over_front Limit all front back is h = rw is (over_more front back h)
