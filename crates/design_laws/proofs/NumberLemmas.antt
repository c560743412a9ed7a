-- Signals that have the numbers of names.
use Rattle.std.proofs.Common.{◌≡◌, ℕ, suc, ◌+◌, Bool, true, false, cond, not, ◌||◌, ◌==◌, List, [], ◌∷◌, ◌++◌, map, refl, sym, ap, ◌∙◌, arith, inl, inr, slice_index_or}
use Rattle.design_laws.proofs.Vocabulary.{list_any, cases_Bool, eq-eqb, eqb-true, map_push, Model, Signal}
use Rattle.std.specs.Str.{bytes_eq}
use Rattle.std.proofs.{Math.Bool.or-true, lemmas.List.Folds.list_any-append, lemmas.Slice.Eq.bytes_eq-Decides}
use Rattle.design_flatten.specs.Vocabulary.{same_signal, with_signal, with_signals, signal_number, printed}
use Rattle.design_blif.specs.Names.{with_name, names_after, name_number}
use Rattle.design_laws.proofs.OrderedLemmas.{Each, each-append, each-map}

-- the word is one of the names
abbrev pub Has : List (List ℕ) → List ℕ → Type 0
Has names w = list_any (bytes_eq w) names ≡ true

-- ---- where a name stands

at_number : (names : List (List ℕ)) (w : List ℕ) → Has names w → slice_index_or names (name_number names w) [] ≡ w
at_number [] w h = absurd cc
at_number (v ∷ names) w h = by (bytes_eq w v) refl h (at_number names w)
  where
    by : (b : Bool) → bytes_eq w v ≡ b → (b || list_any (bytes_eq w) names) ≡ true → (Has names w → slice_index_or names (name_number names w) [] ≡ w) → slice_index_or (v ∷ names) (cond (not b) (1 + name_number names w) 0) [] ≡ w
    by true e h rest = sym ((bytes_eq-Decides w v).0 e)
    by false e h rest = let next : 1 + name_number names w ≡ suc (name_number names w) = omega arith in rw next (rest h)

one_name : (names : List (List ℕ)) (v w : List ℕ) → Has names v → Has names w → name_number names v ≡ name_number names w → v ≡ w
one_name names v w a b e = sym (at_number names v a) ∙ ap (λ k. slice_index_or names k []) e ∙ at_number names w b

same_number : (names : List (List ℕ)) (v w : List ℕ) → Has names v → Has names w → (name_number names v == name_number names w) ≡ bytes_eq v w
same_number names v w a b = by (bytes_eq v w) refl
  where
    by : (t : Bool) → bytes_eq v w ≡ t → (name_number names v == name_number names w) ≡ t
    by true e = eq-eqb (name_number names v) (name_number names w) (ap (name_number names) ((bytes_eq-Decides v w).0 e))
    by false e = elim (cases_Bool (name_number names v == name_number names w)) [
      | inr differ ↦ differ
      | inl equal ↦
          let alike : bytes_eq v w ≡ true = (bytes_eq-Decides v w).1 (one_name names v w a b (eqb-true (name_number names v) (name_number names w) equal)) in
          absurd cc
    ]

-- ---- the names of words

self : (w : List ℕ) → bytes_eq w w ≡ true
self w = (bytes_eq-Decides w w).1 refl

has_last : (names : List (List ℕ)) (w : List ℕ) → Has (names ++ w ∷ []) w
has_last [] w = rw (self w) refl
has_last (v ∷ names) w = rw (has_last names w) (or-true (bytes_eq w v))

has_front : (names more : List (List ℕ)) (w : List ℕ) → Has names w → Has (names ++ more) w
has_front names more w h = rw (list_any-append (bytes_eq w) names more, h) refl

has_kept : (names : List (List ℕ)) (v w : List ℕ) → Has names w → Has (with_name names v) w
has_kept names v w h = by (list_any (bytes_eq v) names)
  where
    by : (b : Bool) → Has (cond b names (names ++ v ∷ [])) w
    by true = h
    by false = has_front names (v ∷ []) w h

has_new : (names : List (List ℕ)) (w : List ℕ) → Has (with_name names w) w
has_new names w = by (list_any (bytes_eq w) names) refl
  where
    by : (b : Bool) → list_any (bytes_eq w) names ≡ b → Has (cond b names (names ++ w ∷ [])) w
    by true e = e
    by false e = has_last names w

has_after : (words names : List (List ℕ)) (w : List ℕ) → Has names w → Has (names_after names words) w
has_after [] names w h = h
has_after (v ∷ words) names w h = has_after words (with_name names v) w (has_kept names v w h)

-- each word is one of the names afterwards
pub has_words : (words names : List (List ℕ)) → Each (Has (names_after names words)) words
has_words [] names = tt
has_words (w ∷ words) names = (has_after words (with_name names w) w (has_new names w), has_words words (with_name names w))

pub has_self : (names : List (List ℕ)) → Each (Has names) names
has_self [] = tt
has_self (v ∷ names) = (rw (self v) refl, each-map (Has names) (Has (v ∷ names)) later names (has_self names))
  where
    later : (w : List ℕ) → Has names w → Has (v ∷ names) w
    later w h = rw h (or-true (bytes_eq w v))

-- ---- their signals

module _ (names : List (List ℕ)) where
  -- the signal of a name
  abbrev pub sig : List ℕ → Signal
  sig w = record { used = 0; own = name_number names w }

  same_sig : (v w : List ℕ) → Has names v → Has names w → same_signal (sig v) (sig w) ≡ bytes_eq v w
  same_sig v w a b = same_number names v w a b

  any_sig : (w : List ℕ) (some : List (List ℕ)) → Has names w → Each (Has names) some → list_any (same_signal (sig w)) (map sig some) ≡ list_any (bytes_eq w) some
  any_sig w [] h all = refl
  any_sig w (v ∷ some) h all = λ i. same_sig w v h all.0 i || any_sig w some h all.1 i

  with_sig : (some : List (List ℕ)) (w : List ℕ) → Has names w → Each (Has names) some → with_signal (map sig some) (sig w) ≡ map sig (with_name some w)
  with_sig some w h all = ap (λ b. cond b (map sig some) (map sig some ++ sig w ∷ [])) (any_sig w some h all) ∙ by (list_any (bytes_eq w) some)
    where
      by : (b : Bool) → cond b (map sig some) (map sig some ++ sig w ∷ []) ≡ map sig (cond b some (some ++ w ∷ []))
      by true = refl
      by false = sym (map_push sig some w)

  each_with : (some : List (List ℕ)) (w : List ℕ) → Has names w → Each (Has names) some → Each (Has names) (with_name some w)
  each_with some w h all = by (list_any (bytes_eq w) some)
    where
      by : (b : Bool) → Each (Has names) (cond b some (some ++ w ∷ []))
      by true = all
      by false = each-append (Has names) some (w ∷ []) all (h, tt)

  -- signals by first appearance are names by first appearance
  pub with_sigs : (words some : List (List ℕ)) → Each (Has names) words → Each (Has names) some → with_signals (map sig some) (map sig words) ≡ map sig (names_after some words)
  with_sigs [] some h all = refl
  with_sigs (w ∷ words) some h all = ap (λ x. with_signals x (map sig words)) (with_sig some w h.0 all) ∙ with_sigs words (with_name some w) h.1 (each_with some w h.0 all)

  number_in : (some : List (List ℕ)) (w : List ℕ) → Has names w → Each (Has names) some → signal_number (map sig some) (sig w) ≡ name_number some w
  number_in [] w h all = refl
  number_in (v ∷ some) w h all = λ i. cond (not (same_sig w v h all.0 i)) (1 + number_in some w h all.1 i) 0

  -- a name's signal has its number
  pub sig_number : (w : List ℕ) → Has names w → signal_number (map sig names) (sig w) ≡ name_number names w
  sig_number w h = number_in names w h (has_self names)

  module _ (m : Model) (names_are : m.names ≡ names) where
    printed_each : (some : List (List ℕ)) → Each (Has names) some → map (printed (m ∷ [])) (map sig some) ≡ some
    printed_each [] all = refl
    printed_each (w ∷ some) all =
        let one : slice_index_or m.names (name_number names w) [] ≡ w = ap (λ ns. slice_index_or ns (name_number names w) []) names_are ∙ at_number names w all.0 in
        λ i. one i ∷ printed_each some all.1 i

    -- and prints as the name
    pub printed_names : map (printed (m ∷ [])) (map sig names) ≡ names
    printed_names = printed_each names (has_self names)
