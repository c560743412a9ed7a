-- Printed names.
use Rattle.std.proofs.Common.{◌≡◌, ℕ, zero, suc, ◌<◌, ◌||◌, false, List, [], ◌∷◌, ◌++◌, length, map, get_or, refl, ap, sym, ◌∙◌, inl, inr, arith, append_assoc, ◌+◌, ◌-◌}
use Rattle.design_flatten.proofs.Vocabulary.{cases_eq, cases_lt, flat_map-append, whole, Model, Signal}
use Rattle.std.proofs.lemmas.List.{get_or_push, get_or_append_left, get_or_past, append-nil}
use Rattle.std.specs.Fmt.{decimal}
use Rattle.design_flatten.specs.declared.work.Origin.{Origin as Kept}
use Rattle.design_flatten.specs.Vocabulary.{Part, InputPart, OutputPart, CoverPart, LatchPart, UsePart, Line, is_use, first_model, after, is_left, IsSubstituted, first_use, origin_of, printed, printed_way, way_to, IsOrigin, AreOrigins, AreAllOrigins, AreWays, step_to, shared_as}
use Rattle.design_flatten.proofs.SubstitutionLemmas.{stays_after}

way_push : (way : List ℕ) (place : ℕ) → printed_way (way ++ place ∷ []) ≡ printed_way way ++ decimal place ++ 47 ∷ []
way_push way place =
    flat_map-append (λ k. decimal k ++ 47 ∷ []) way (place ∷ [])
    ∙ ap (λ x. printed_way way ++ x) (append-nil (decimal place ++ 47 ∷ []))
    ∙ sym (append_assoc (printed_way way) (decimal place) (47 ∷ []))

-- one more way
pub ways_more : (ms : List Model) (n : ℕ) (ts : List (List ℕ)) (o : Kept) → length ts ≡ n → IsOrigin ms n o → AreWays ms n ts → AreWays ms (n + 1) (ts ++ (get_or ts o.within [] ++ step_to n o.place) ∷ [])
ways_more ms n ts o len is ways k lt = elim (cases_eq k n) [
  | inl e ↦ get_or_push ts (get_or ts o.within [] ++ step_to n o.place) [] k (len ∙ sym e) ∙ last n len is ways ∙ ap (λ j. printed_way (way_to ms j)) (sym e)
  | inr ne ↦ get_or_append_left ts ((get_or ts o.within [] ++ step_to n o.place) ∷ []) [] k (omega arith) ∙ ways k (omega arith)
]
  where
    last : (n : ℕ) → length ts ≡ n → IsOrigin ms n o → AreWays ms n ts → get_or ts o.within [] ++ step_to n o.place ≡ printed_way (way_to ms n)
    last zero len is ways = ap (λ x. x ++ []) (get_or_past ts o.within [] (omega arith))
    last (suc m) len is ways =
        ap (λ x. x ++ (decimal o.place ++ 47 ∷ [])) (ways o.within (let le = is.1 in omega arith))
        ∙ sym (append_assoc (printed_way (way_to ms o.within)) (decimal o.place) (47 ∷ []))
        ∙ sym (way_push (way_to ms o.within) o.place)
        ∙ ap printed_way (sym is.2)

-- all ways, also to lines that weren't replaced
pub all_ways : (ms : List Model) (os : List Kept) (ts : List (List ℕ)) → AreAllOrigins ms os → length ts ≡ length os → AreWays ms (length os) ts → (k : ℕ) → get_or ts k [] ≡ printed_way (way_to ms k)
all_ways ms os ts all len ways k = elim (cases_lt k (length os)) [
  | inl lt ↦ ways k lt
  | inr le ↦ get_or_past ts k [] (omega arith) ∙ ap (λ o. printed_way o.way) (sym (all.1 k le))
]

pub names_are : (ms : List Model) (ts : List (List ℕ)) → ((k : ℕ) → get_or ts k [] ≡ printed_way (way_to ms k)) → (ss : List Signal) → map (whole ts) (map (shared_as ms) ss) ≡ map (printed ms) ss
names_are ms ts h [] = refl
names_are ms ts h (s ∷ ss) = λ i. (h s.used i ++ get_or (origin_of ms s.used).model.names s.own []) ∷ names_are ms ts h ss i

-- where none is left
none_use : (ms : List Model) (lines : List (Line Signal)) → is_left lines ≡ false → first_use ms lines ≡ record { model = first_model ms; way = [] }
none_use ms [] h = refl
none_use ms (l ∷ lines) h = by l.part h (none_use ms lines)
  where
    by : (p : Part Signal) → (is_use p || is_left lines) ≡ false → (is_left lines ≡ false → first_use ms lines ≡ record { model = first_model ms; way = [] }) → first_use ms (record { number = l.number; part = p } ∷ lines) ≡ record { model = first_model ms; way = [] }
    by (UsePart o ps w) h later = absurd cc
    by (InputPart s) h later = later h
    by (OutputPart s) h later = later h
    by (CoverPart out ins rows off) h later = later h
    by (LatchPart from out init control) h later = later h

pub no_more : (ms : List Model) (n : ℕ) (lines : List (Line Signal)) → IsSubstituted ms n lines → (k : ℕ) → n < k → origin_of ms k ≡ record { model = first_model ms; way = [] }
no_more ms n lines s zero lt = absurd (omega arith)
no_more ms n lines s (suc k) lt =
    let same : (k - n) + n ≡ k = omega arith in
    let none : is_left (after ms n) ≡ false = ap is_left (sym s.reached) ∙ s.none_left in
    none_use ms (after ms k) (ap is_left (ap (after ms) (sym same) ∙ stays_after ms n none (k - n)) ∙ none)

pub all_origins : (ms : List Model) (os : List Kept) (n : ℕ) (lines : List (Line Signal)) → length os ≡ n + 1 → AreOrigins ms os → IsSubstituted ms n lines → AreAllOrigins ms os
all_origins ms os n lines len h s = (h, λ k le. no_more ms n lines s k (omega (arith, len, le)))
