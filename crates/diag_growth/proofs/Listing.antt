-- Lists that loops make, place by place.
use Rattle.std.proofs.Common.{◌≡◌, ◌⊎◌, ℕ, ◌+◌, ◌<◌, true, false, Some, List, [], ◌∷◌, ◌++◌, length, sym, ap, ◌∙◌, inl, inr, arith, slice_get, slice_index_or, slice_set}
use Rattle.diag_growth.proofs.Vocabulary.{get_or-set_same, get_or-set_other, Wire, Pins, Walk, Support, InFirst, get_before, get_last}
use Rattle.diag_growth.proofs.Vocabulary.{some_same, crosses_of, among, Kept, InSome, IsOn, IsParting, VerifiedWire, false≢true}
use native.Mathlib.Decide.{ℕ_discrete}

-- the known ends of links
pub ends_next : (links : List Support) (ends new : List Wire) (k : ℕ) (link : Support) → length ends ≡ k → ((j : ℕ) (a : Support) → j < k → slice_get links j ≡ Some a → slice_get ends j ≡ Some a.wire) →
    slice_get links k ≡ Some link → new ≡ ends ++ link.wire ∷ [] → (j : ℕ) (a : Support) → j < k + 1 → slice_get links j ≡ Some a → slice_get new j ≡ Some a.wire
ends_next links ends new k link len before here pushed j a less at = by_place (ℕ_discrete j k)
  where
    by_place : Dec (j ≡ k) → slice_get new j ≡ Some a.wire
    by_place (yes e) =
        let same : link ≡ a = some_same (sym here ∙ ap (slice_get links) (sym e) ∙ at) in
        ap (λ (ws : List Wire). slice_get ws j) pushed ∙ ap (slice_get (ends ++ link.wire ∷ [])) (e ∙ sym len) ∙ get_last ends link.wire ∙ ap (λ (f : Support). Some f.wire) same
    by_place (no n) = ap (λ (ws : List Wire). slice_get ws j) pushed ∙ get_before ends (link.wire ∷ []) j a.wire (before j a (omega (arith, less, n)) at)

-- the pins of routes, driven 0 one after the other
module _ (routes : List Walk) (drive new : Pins) (k : ℕ) (route : Walk) (here : slice_get routes k ≡ Some route) (within : route.pin < length drive) (pulled : new ≡ slice_set drive route.pin false) where
  pub low_next : ((j : ℕ) (r : Walk) → j < k → slice_get routes j ≡ Some r → slice_index_or drive r.pin true ≡ false) → (j : ℕ) (r : Walk) → j < k + 1 → slice_get routes j ≡ Some r → slice_index_or new r.pin true ≡ false
  low_next before j r less at = by_place (ℕ_discrete j k)
    where
      at_pin : slice_index_or new route.pin true ≡ false
      at_pin = ap (λ (d : Pins). slice_index_or d route.pin true) pulled ∙ get_or-set_same drive route.pin false true within

      by_pin : j < k → Dec (r.pin ≡ route.pin) → slice_index_or new r.pin true ≡ false
      by_pin low (yes e) = ap (λ p. slice_index_or new p true) e ∙ at_pin
      by_pin low (no n) = ap (λ (d : Pins). slice_index_or d r.pin true) pulled ∙ get_or-set_other drive route.pin r.pin false true n ∙ before j r low at

      by_place : Dec (j ≡ k) → slice_index_or new r.pin true ≡ false
      by_place (yes e) = ap (λ (x : Walk). slice_index_or new x.pin true) (some_same (sym at ∙ ap (slice_get routes) e ∙ here)) ∙ at_pin
      by_place (no n) = by_pin (omega (arith, less, n)) (ℕ_discrete r.pin route.pin)

  pub only_next : ((p : ℕ) → slice_index_or drive p true ≡ false → InFirst routes k (λ r p. r.pin ≡ p) p) → (p : ℕ) → slice_index_or new p true ≡ false → InFirst routes (k + 1) (λ r p. r.pin ≡ p) p
  only_next before p low = by_pin (ℕ_discrete p route.pin)
    where
      by_pin : Dec (p ≡ route.pin) → InFirst routes (k + 1) (λ r p. r.pin ≡ p) p
      by_pin (yes e) = record { place = k; early = omega arith; item = route; here = here; so = sym e }
      by_pin (no n) = let q = before p (sym (get_or-set_other drive route.pin p false true n) ∙ sym (ap (λ (d : Pins). slice_index_or d p true) pulled) ∙ low) in
          record { place = q.place; early = (let e = q.early in omega (arith, e)); item = q.item; here = q.here; so = q.so }

-- the crosspoints that a parting closes are of the machine
pub parting_within : {k : Kept} {ss : List VerifiedWire} {w : ℕ} {q : Walk} {routes : List Walk} {ties : List ℕ} → IsParting k ss w q routes ties → (x : ℕ) → among ties x ≡ true → x < crosses_of k.shape
parting_within {k} {ss} {w} {q} {routes} {ties} h x on = from_new (h.laid.only x on)
  where
    from_new : (false ≡ true) ⊎ InSome routes IsOn x → x < crosses_of k.shape
    from_new (inl e) = absurd (false≢true e)
    from_new (inr p) = (h.walks.each p.place p.item p.here).route.crosses x p.so
