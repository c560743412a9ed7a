-- Looks over links, and what they find.
use Rattle.std.proofs.Common.{◌≡◌, ◌⊎◌, ℕ, ◌+◌, ◌<◌, ◌≤◌, Bool, true, Some, None, Option, List, [], ◌∷◌, ◌++◌, length, sym, ap, ◌∙◌, subst, inl, inr, arith, slice_get}
use Rattle.diag_growth.proofs.Vocabulary.{slice_get_within, has_number, Shape, IsNumbered, Ends, ends_of, wires_of, crosses_of, Faults}
use Rattle.diag_growth.proofs.Vocabulary.{Ends-swap, Kept, keeps_cross, Field, Look, Offer, Support, VerifiedWire}
use native.Mathlib.Decide.{ℕ_discrete}
use Rattle.diag_known.specs.Vocabulary.{IsInField, AreLinksOf, KnownWires, IsAt, IsBefore, HasWire, IsKnown, IsOffer, IsPlaced, AreLost, HasNoSecond, IsKeptUnlessStuck}
use Rattle.diag_growth.specs.Looks.{IsLook, IsOfferOf, IsLooked, AreEarlier, AreEarlierUpTo, TakesEarlier}
use Rattle.diag_growth.proofs.Growing.{before_old}
use Rattle.diag_known.proofs.Places.{get_before, get_last, get_pushed, some_same, one_place, before_has}

-- links that came before
pub takes_none : {ss : List VerifiedWire} {place : ℕ} {link : Support} (others : List Support) → (IsBefore ss place link.wire.0 → ⊥) → TakesEarlier ss place link others others
takes_none others none = record { stays = λ a p. p; has = λ b. absurd (none b); only = λ a p. inl p }

pub takes_one : {ss : List VerifiedWire} {place : ℕ} {link : Support} {new : List Support} (others : List Support) → IsBefore ss place link.wire.0 → new ≡ others ++ link ∷ [] → TakesEarlier ss place link others new
takes_one {ss} {place} {link} {new} others before e = record {
  stays = λ a p. record { place = p.place; here = subst (λ fs. slice_get fs p.place ≡ Some a) (sym e) (get_before others (link ∷ []) p.place a p.here) };
  has = λ b. record { place = length others; here = subst (λ fs. slice_get fs (length others) ≡ Some link) (sym e) (get_last others link) };
  only = λ a p. by_place a p (get_pushed others link p.place a (subst (λ fs. slice_get fs p.place ≡ Some a) e p.here));
}
  where
    by_place : (a : Support) (p : IsPlaced new a) → (slice_get others p.place ≡ Some a) ⊎ ((p.place ≡ length others) × (link ≡ a)) → IsPlaced others a ⊎ ((a ≡ link) × IsBefore ss place link.wire.0)
    by_place a p (inl h) = inl (record { place = p.place; here = h })
    by_place a p (inr h) = inr (sym h.1, before)

-- a wire that stands at a place didn't come before an earlier one
pub not_earlier : {k : Kept} {known : KnownWires} → IsKnown k known → {i place w : ℕ} → IsAt known.steps i w → place ≤ i → IsBefore known.steps place w → ⊥
not_earlier is {i} {place} at le b = let same : b.place ≡ i = one_place is b.at at in let early = b.early in let no : ⊥ = omega (arith, same, early, le) in no

pub earlier_none : (links : List Support) (ss : List VerifiedWire) (place : ℕ) → AreEarlierUpTo links ss place [] 0
earlier_none links ss place = record { right = λ b p. absurd (none p); whole = λ j b less at before. absurd (let no : ⊥ = omega (arith, less) in no) }
  where
    none : {b : Support} → IsPlaced [] b → ⊥
    none p = by p.here
      where
        by : {b : Support} → ◌≡◌ {A = Option Support} None (Some b) → ⊥
        by e = cc

pub earlier_next : {links : List Support} {ss : List VerifiedWire} {place n : ℕ} {old new : List Support} {link : Support} → slice_get links n ≡ Some link → TakesEarlier ss place link old new → AreEarlierUpTo links ss place old n →
    AreEarlierUpTo links ss place new (n + 1)
earlier_next {links} {ss} {place} {n} {old} {new} {link} here takes up = record {
  right = λ b p. from_new b (takes.only b p);
  whole = λ j b less at before. by_place j b less at before (ℕ_discrete j n);
}
  where
    from_new : (b : Support) → IsPlaced old b ⊎ ((b ≡ link) × IsBefore ss place link.wire.0) → IsPlaced links b × IsBefore ss place b.wire.0
    from_new b (inl p) = up.right b p
    from_new b (inr h) = subst (λ (f : Support). IsPlaced links f × IsBefore ss place f.wire.0) (sym h.0) (record { place = n; here = here }, h.1)

    by_place : (j : ℕ) (b : Support) → j < n + 1 → slice_get links j ≡ Some b → IsBefore ss place b.wire.0 → Dec (j ≡ n) → IsPlaced new b
    by_place j b less at before (yes e) =
        let same : link ≡ b = some_same (sym here ∙ ap (slice_get links) (sym e) ∙ at) in
        subst (IsPlaced new) same (takes.has (subst (λ (f : Support). IsBefore ss place f.wire.0) (sym same) before))
    by_place j b less at before (no other) = takes.stays b (up.whole j b (omega (arith, less, other)) at before)

pub earlier_all : {m : Shape} {field : Field} {ss : List VerifiedWire} {place w n : ℕ} {links others : List Support} → AreLinksOf m field w links → length links ≤ n → AreEarlierUpTo links ss place others n → AreEarlier m field ss place w others
earlier_all {m} {field} {ss} {place} {w} {n} {links} {others} of le up = record { right = λ b p. right b (up.right b p); whole = whole }
  where
    right : (b : Support) → IsPlaced links b × IsBefore ss place b.wire.0 → IsInField m field b.cross.0 b.wire.0 w × IsBefore ss place b.wire.0
    right b p = (of.right p.0.place b p.0.here, p.1)

    whole : (y v : ℕ) → IsInField m field y v w → IsBefore ss place v → (b : Support) × IsPlaced others b × (b.cross.0 ≡ y)
    whole y v i before =
        let leads = of.whole y v i in
        (leads.link, up.whole leads.place leads.link (let h = slice_get_within links leads.place leads.link leads.here in omega (arith, h, le)) leads.here (subst (IsBefore ss place) (sym leads.wire) before), leads.cross)

-- a link leads to a wire of the machine
pub other_within : {m : Shape} {field : Field} {x u w : ℕ} → IsNumbered m → IsInField m field x u w → u < wires_of m
other_within {x = x} {u = u} {w = w} numbered i = numbered.ends x u w i.within i.at

-- the offer of a look
module _ {k : Kept} {known : KnownWires} {field : Field} {l : Look} (is : IsKnown k known) (numbered : IsNumbered k.shape) (look : IsLook k.shape field known.steps l) where
  pub look_has : HasWire known.steps l.wire.0
  look_has = record { place = l.place; at = look.at }

  pub look_within : l.link.cross.0 < crosses_of k.shape
  look_within = look.link.within

  pub look_ends : Ends (ends_of k.shape l.link.cross.0) l.link.wire.0 l.wire.0
  look_ends = look.link.at

  pub look_other : l.link.wire.0 < wires_of k.shape
  look_other = other_within numbered look.link

  pub offer_is : {o : Offer} → ¬ HasWire known.steps l.link.wire.0 → o.wire.0 ≡ l.link.wire.0 → o.foot.cross.0 ≡ l.link.cross.0 → o.foot.wire.0 ≡ l.wire.0 → AreEarlier k.shape field known.steps l.place l.link.wire.0 o.others.items → IsOffer k.shape known.steps o
  offer_is {o} new wire cross end earlier = record {
    within = subst (λ w. w < wires_of k.shape) (sym wire) look_other;
    new = subst (λ w. ¬ HasWire known.steps w) (sym wire) new;
    foot = record {
      within = subst (λ x. x < crosses_of k.shape) (sym cross) look_within;
      at = subst (λ x. Ends (ends_of k.shape x) o.foot.wire.0 o.wire.0) (sym cross) (subst (λ u. Ends (ends_of k.shape l.link.cross.0) u o.wire.0) (sym end) (subst (λ w. Ends (ends_of k.shape l.link.cross.0) l.wire.0 w) (sym wire) (Ends-swap look_ends)));
      known = subst (HasWire known.steps) (sym end) look_has;
    };
    others = λ j a here. let p = earlier.right a (record { place = j; here = here }) in record {
      within = p.0.within;
      at = subst (λ w. Ends (ends_of k.shape a.cross.0) a.wire.0 w) (sym wire) p.0.at;
      known = before_has p.1;
    };
    differ = λ j a here same. let p = earlier.right a (record { place = j; here = here }) in not_earlier is {i = l.place} {place = l.place} look.at (omega arith) (subst (IsBefore known.steps l.place) (same ∙ end) p.1);
  }

-- what a look from a known wire to another known one finds
pub looked_known : {told : Option Faults} {k : Kept} {field : Field} {ss : List VerifiedWire} {barred : List Bool} {n x w : ℕ} → HasWire ss w → (IsBefore ss n w → IsKeptUnlessStuck told k x) → IsLooked told k field ss barred n x w
looked_known has kept = record { between = kept; seconds = λ y v leads before. inl has }

pub kept_already : {told : Option Faults} {k : Kept} {x : ℕ} → keeps_cross k x ≡ true → IsKeptUnlessStuck told k x
kept_already e = record { at = λ f told holds free. e }

-- .. to one that is barred
pub looked_barred : {told : Option Faults} {k : Kept} {field : Field} {ss : List VerifiedWire} {barred : List Bool} {n x w : ℕ} → (IsBefore ss n w → ⊥) → has_number barred w ≡ true → IsLooked told k field ss barred n x w
looked_barred none on = record { between = λ b. absurd (none b); seconds = λ y v leads before. inr (inl on) }

-- .. to one that isn't known, and has no second foot
pub looked_lost : {told : Option Faults} {m : Shape} {k : Kept} {field : Field} → k.shape ≡ m → (old new : KnownWires) {barred : List Bool} {l : Look} {o : Offer} → l.place ≤ length old.steps → (ts : List VerifiedWire) → new.steps ≡ old.steps ++ ts → ¬ HasWire old.steps l.link.wire.0 →
    IsOfferOf m field old.steps l o → HasNoSecond told k new.steps o → IsLooked told k field new.steps barred l.place l.link.cross.0 l.link.wire.0
looked_lost {told} {m} {k} {field} same old new {barred} {l} {o} le ts steps none of_look lost = record {
  between = λ b. absurd (none (before_has (old_before b)));
  seconds = λ y v leads before.
      let p = of_look.earlier.whole y v (subst (λ (n : Shape). IsInField n field y v l.link.wire.0) same leads) (old_before before) in
      inr (inr (subst (λ z. AreLost told k new.steps l.link.wire.0 l.link.cross.0 z) p.2
      (subst (λ c. AreLost told k new.steps l.link.wire.0 c p.0.cross.0) of_look.cross (subst (λ w. AreLost told k new.steps w o.foot.cross.0 p.0.cross.0) of_look.wire (lost.lost p.1.place p.0 p.1.here)))));
}
  where
    old_before : {u : ℕ} → IsBefore new.steps l.place u → IsBefore old.steps l.place u
    old_before {u} b = before_old ts le (subst (λ ss. IsBefore ss l.place u) steps b)
