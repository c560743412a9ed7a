-- The number of a signal that stands at a known place, and what is given where nothing is.
use Rattle.std.proofs.Common.{◌≡◌, ℕ, zero, suc, ◌+◌, ◌<◌, Bool, true, false, not, cond, ◌||◌, ◌&&◌, ◌==◌, List, [], ◌∷◌, Option, Some, None, length, refl, sym, ap, subst, ◌∙◌, arith}
use Rattle.std.specs.List.{list_any, IsDistinct, AllByRecursion, position_or_len, slice_get}
use Rattle.std.proofs.lemmas.Map.Keys.{IsDistinct-head, IsDistinct-tail}
use Rattle.design_flatten.proofs.Vocabulary.{or-true, Signal, same_signal, signal_number}

-- the list without repeats has the signal at this place
pub record StandsAt (signals : List Signal) (place : ℕ) (s : Signal) : Type 0 where
  pub number : place ≡ signal_number signals s
  pub known : list_any (same_signal s) signals ≡ true
  pub within : place < length signals

itself : (s : Signal) → same_signal s s ≡ true
itself s = grind arith

turned : (t s : Signal) → same_signal t s ≡ false → same_signal s t ≡ false
turned t s h = grind arith

some_is : (t s : Signal) → Some t ≡ Some s → t ≡ s
some_is t s h = cc

unlike_at : (t : Signal) (signals : List Signal) (k : ℕ) (s : Signal) → AllByRecursion (λ y. same_signal t y ≡ false) signals → slice_get signals k ≡ Some s → same_signal t s ≡ false
unlike_at t [] k s all h = absurd cc
unlike_at t (u ∷ signals) zero s all h = ap (same_signal t) (sym (some_is u s h)) ∙ all.0
unlike_at t (u ∷ signals) (suc k) s all h = unlike_at t signals k s all.1 h

pub stands : (signals : List Signal) (k : ℕ) (s : Signal) → IsDistinct same_signal signals → slice_get signals k ≡ Some s → StandsAt signals k s
stands [] k s apart h = absurd cc
stands (t ∷ signals) zero s apart h =
    let same : same_signal s t ≡ true = ap (same_signal s) (some_is t s h) ∙ itself s in
    record { number = rw same refl; known = rw same refl; within = omega arith }
stands (t ∷ signals) (suc k) s apart h =
    let below = stands signals k s (IsDistinct-tail same_signal t signals apart) h in
    let other : same_signal s t ≡ false = turned t s (unlike_at t signals k s (IsDistinct-head same_signal t signals apart) h) in
    let one : suc k ≡ 1 + k = omega arith in
    record { number = rw other (one ∙ ap (λ m. 1 + m) below.number); known = rw other below.known; within = omega (arith, below.within) }

pub stands_in : (keys seen signals : List Signal) (k : ℕ) (s : Signal) → keys ≡ signals → seen ≡ keys → IsDistinct same_signal keys → slice_get seen k ≡ Some s → StandsAt signals k s
stands_in keys seen signals k s view is apart h = subst (λ ss. StandsAt ss k s) view (stands keys k s apart (ap (λ ss. slice_get ss k) (sym is) ∙ h))
