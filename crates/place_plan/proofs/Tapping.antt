-- The taps by which a net comes to a node.
use Rattle.std.proofs.Common.{◌≡◌, ℕ, ◌+◌, ◌<◌, ◌≤◌, Bool, true, false, List, [], ◌∷◌, ◌++◌, length, get_or, map, Option, Some, None, IfSome, IfNone, ◌⊎◌, inl, inr, refl, sym, ap, ◌∙◌, subst, arith}
use Rattle.place_plan.proofs.Vocabulary.{AllPairs, Contains, map-append, Shape, IsTree, Ask, NetSide}
use Rattle.std.proofs.lemmas.List.Elements.{All-push, Contains-push, Contains-push_cases, Contains-append_left}
use Rattle.place_plan.specs.Vocabulary.{AreThose, IsNth, IsAmongFirst, nth_of, IsAt, list_at, is_last, with_last, IsHeld, IsTapBy, IsTapFor, IsFound, AreTaps, with_option, VisitsIn, IsAskOf, AreAsksOf}
use Rattle.place_plan.specs.Taps.{net_of}
use Rattle.place_plan.proofs.Places.{IsAt-unique}
use Rattle.place_plan.proofs.Spreads.{last_is}
use Rattle.place_plan.proofs.Sieves.{elements_step}
use Rattle.place_plan.proofs.Those.{not_in_nil, same_place}

pub found_same : (P Q : ℕ → Type 0) (o : Option ℕ) → ((t : ℕ) → P t → Q t) → ((t : ℕ) → Q t → P t) → IsFound P o → IsFound Q o
found_same P Q None to from is = λ t q. is t (from t q)
found_same P Q (Some t) to from is = (to t is.0, λ u q. is.1 u (from u q))

pub held_found : (crossing ports : List (List ℕ)) (c k : ℕ) (o : Option ℕ) → AllPairs (λ a b. a < b) (list_at crossing c) → IfSome o (λ t. (j : ℕ) × IsNth (list_at crossing c) j k × IsNth (list_at ports c) j t) → IfNone o ((j : ℕ) → IsNth (list_at crossing c) j k → length (list_at ports c) ≤ j) → IsFound (IsHeld crossing ports c k) o
held_found crossing ports c k None up some none = λ t h. past h.0 (none h.0 h.1) h.2.0
  where
    past : (j : ℕ) → length (list_at ports c) ≤ j → j < length (list_at ports c) → ⊥
    past j a b = omega arith
held_found crossing ports c k (Some t) up some none = (some, λ u h. sym h.2.1 ∙ ap (λ j. get_or (list_at ports c) j 0) (same_place (list_at crossing c) h.0 some.0 k up h.1 some.1) ∙ some.2.1)

-- a list with one more at the end, unless it is there
last_cases : (xs : List ℕ) (t u : ℕ) → Contains (with_last xs t) u → Contains xs u ⊎ (t ≡ u)
last_cases xs t u has = by (is_last xs t) refl
  where
    by : (b : Bool) → is_last xs t ≡ b → Contains xs u ⊎ (t ≡ u)
    by true e = inl (let f : with_last xs t ≡ xs = rw e in subst (λ z. Contains z u) f has)
    by false e = (let f : with_last xs t ≡ xs ++ t ∷ [] = rw e in Contains-push_cases xs t u (subst (λ z. Contains z u) f has))

last_keeps : (xs : List ℕ) (t u : ℕ) → Contains xs u → Contains (with_last xs t) u
last_keeps xs t u has = by (is_last xs t) refl
  where
    by : (b : Bool) → is_last xs t ≡ b → Contains (with_last xs t) u
    by true e = (let f : with_last xs t ≡ xs = rw e in subst (λ z. Contains z u) (sym f) has)
    by false e = (let f : with_last xs t ≡ xs ++ t ∷ [] = rw e in subst (λ z. Contains z u) (sym f) (Contains-append_left xs (t ∷ []) u has))

last_has : (xs : List ℕ) (t : ℕ) → Contains (with_last xs t) t
last_has xs t = by (is_last xs t) refl
  where
    by : (b : Bool) → is_last xs t ≡ b → Contains (with_last xs t) t
    by true e = (let f : with_last xs t ≡ xs = rw e in subst (λ z. Contains z t) (sym f) (last_is xs t e))
    by false e = (let f : with_last xs t ≡ xs ++ t ∷ [] = rw e in subst (λ z. Contains z t) (sym f) (Contains-push xs t))

option_cases : (xs : List ℕ) (o : Option ℕ) (u : ℕ) → Contains (with_option xs o) u → Contains xs u ⊎ (o ≡ Some u)
option_cases xs None u has = inl has
option_cases xs (Some t) u has = elim (last_cases xs t u has) [ inl h ↦ inl h | inr e ↦ inr (ap Some e) ]

option_keeps : (xs : List ℕ) (o : Option ℕ) (u : ℕ) → Contains xs u → Contains (with_option xs o) u
option_keeps xs None u has = has
option_keeps xs (Some t) u has = last_keeps xs t u has

found_is : (P : ℕ → Type 0) (o : Option ℕ) (t : ℕ) → IsFound P o → o ≡ Some t → P t
found_is P None t is e = cc
found_is P (Some u) t is e = let q : u ≡ t = cc in subst P q is.0

option_has : (P : ℕ → Type 0) (xs : List ℕ) (o : Option ℕ) (t : ℕ) → IsFound P o → P t → Contains (with_option xs o) t
option_has P xs None t is p = absurd (is t p)
option_has P xs (Some u) t is p = subst (λ z. Contains (with_last xs u) z) (sym (is.1 t p)) (last_has xs u)

module _ (m : Shape) (crossing ports : List (List ℕ)) (n k : ℕ) where
  pub tap_for : IsTree m → (w : ℕ) (s : NetSide) (t : ℕ) → IsAt m n w s → IsTapFor m crossing ports n k w t → IsTapBy crossing ports n k s t
  tap_for tree w s t at is = subst (λ z. IsTapBy crossing ports n k z t) (IsAt-unique m tree is.1 at) is.2

  pub taps_none : AreTaps m crossing ports n k [] []
  taps_none = λ t. (λ has. absurd (not_in_nil t has), λ a. absurd (not_in_nil a.0 a.1))

  pub taps_more : (ws taps : List ℕ) (w : ℕ) (o : Option ℕ) → AreTaps m crossing ports n k ws taps → IsFound (IsTapFor m crossing ports n k w) o → AreTaps m crossing ports n k (ws ++ w ∷ []) (with_option taps o)
  taps_more ws taps w o are is = λ t. (
    λ has. elim (option_cases taps o t has) [
      | inl old ↦ (let a = (are t).0 old in (a.0, Contains-append_left ws (w ∷ []) a.0 a.1, a.2))
      | inr e ↦ (w, Contains-push ws w, found_is (IsTapFor m crossing ports n k w) o t is e)
    ],
    λ a. elim (Contains-push_cases ws w a.0 a.1) [
      | inl old ↦ option_keeps taps o t ((are t).1 (a.0, old, a.2))
      | inr e ↦ option_has (IsTapFor m crossing ports n k w) taps o t is (subst (λ z. IsTapFor m crossing ports n k z t) (sym e) a.2)
    ],
  )

module _ (m : Shape) (nets crossing ports : List (List ℕ)) (n : ℕ) (touched : List ℕ) where
  pub asks_more : (i : ℕ) (asks : List Ask) (taps : List ℕ) → AllPairs (λ a b. a < b) touched → i < length touched → AreAsksOf m nets crossing ports n touched i asks → VisitsIn m nets n (get_or touched i 0) → AreTaps m crossing ports n (get_or touched i 0) (list_at nets (get_or touched i 0)) taps → AreAsksOf m nets crossing ports n touched (i + 1) (asks ++ record { net = record { 0 = get_or touched i 0 }; taps = taps } ∷ [])
  asks_more i asks taps up lt are visits these = record {
    nets_are = subst (AreThose (IsAmongFirst (nth_of touched) (i + 1) (VisitsIn m nets n))) (sym (map-append net_of asks (a ∷ []))) (elements_step touched (VisitsIn m nets n) i true (map net_of asks) up lt (λ _. visits) (λ e. never e) are.nets_are);
    each = All-push (IsAskOf m nets crossing ports n) asks a are.each these;
  }
    where
      a : Ask
      a = record { net = record { 0 = get_or touched i 0 }; taps = taps }

      never : true ≡ false → VisitsIn m nets n (get_or touched i 0) → ⊥
      never e v = cc

  pub asks_same : (i : ℕ) (asks : List Ask) → AllPairs (λ a b. a < b) touched → i < length touched → AreAsksOf m nets crossing ports n touched i asks → (VisitsIn m nets n (get_or touched i 0) → ⊥) → AreAsksOf m nets crossing ports n touched (i + 1) asks
  asks_same i asks up lt are none = record {
    nets_are = elements_step touched (VisitsIn m nets n) i false (map net_of asks) up lt (λ e. never e) (λ _. none) are.nets_are;
    each = are.each;
  }
    where
      never : false ≡ true → VisitsIn m nets n (get_or touched i 0)
      never e = absurd (let f : ⊥ = cc in f)
