-- Two ways to a wire, from two routes to its feet.
use Rattle.std.proofs.Common.{◌≡◌, ◌≢◌, ◌⊎◌, ℕ, true, Some, List, [], ◌∷◌, ◌++◌, refl, sym, ap, ◌∙◌, subst, inl, inr, slice_get}
use Rattle.diag_known.proofs.Vocabulary.{false≢true, Shape, Ends, ends_of, pin_wire, among, Walk, IsRoute, Extends, at_pin, other_end}
use Rattle.diag_known.proofs.Vocabulary.{among_both, among-push, Kept, keeps_cross, Support, SupportedBy, VerifiedWire}
use Rattle.diag_known.specs.Vocabulary.{KnownWires, IsAt, IsFoot, HasWire, IsKnown, IsPin, HasFootOn, first, second, RestsOn, IsEarly, AreRoutesTo, IsWay, AreWays, AreFeetOf}
use Rattle.diag_known.specs.declared.verified_wire.SupportedBy.TheVariants as stand
use Rattle.diag_known.proofs.Places.{at_one, before_has, feet_here, StandsOn}
use Rattle.diag_known.proofs.Rising.{foot_end, among_one, not_early, routes_to_turned}

-- the feet are known
pub feet_known : {k : Kept} {ss : List VerifiedWire} {w : ℕ} {a b : Support} → AreFeetOf k ss w a b → HasWire ss a.wire.0 × HasWire ss b.wire.0
feet_known f = (before_has f.one.before, before_has f.other.before)

pub foot_at_end : {k : Kept} {ss : List VerifiedWire} {n w e : ℕ} {a : Support} → IsFoot k ss n w a → e ≡ a.wire.0 → Ends (ends_of k.shape a.cross.0) e w
foot_at_end {k} {ss} {n} {w} {e} {a} foot same = subst (λ x. Ends (ends_of k.shape a.cross.0) x w) (sym same) foot.at

-- a way over the first foot
module _ {k : Kept} {ss : List VerifiedWire} {w : ℕ} {a b : Support} (feet : AreFeetOf k ss w a b) {p q r : Walk} (routes : AreRoutesTo k ss a.wire.0 b.wire.0 p q) (longer : Extends k.shape a.cross.0 p r) (route : IsRoute k.shape r) where
  early_foot : {x : Support} → IsFoot k ss feet.n w x → IsEarly ss feet.n x.wire.0
  early_foot f = record { place = f.before.place; at = f.before.at; early = inr f.before.early }

  pub not_on : (u : ℕ) → (among p.wires u ≡ true) ⊎ (among q.wires u ≡ true) → u ≢ w
  not_on u on same = feet.late (subst (IsEarly ss feet.n) same (routes.early feet.n (early_foot feet.one) (early_foot feet.other) u on))

  pub way_end : r.end ≡ w
  way_end = longer.end ∙ ap (other_end k.shape a.cross.0) routes.left_end ∙ foot_end k.shape a.cross.0 a.wire.0 w feet.one.at

  pub way_wires : r.wires ≡ p.wires ++ w ∷ []
  way_wires = longer.wires ∙ ap (λ u. p.wires ++ u ∷ []) way_end

  on_way : (u : ℕ) → among p.wires u ≡ true → (among r.wires u ≡ true) × (u ≢ w)
  on_way u on = (ap (λ us. among us u) way_wires ∙ among-push p.wires w u ∙ rw on refl, not_on u (inl on))

  rests_way : (s : SupportedBy) → IsPin s ⊎ HasFootOn (λ u. among p.wires u ≡ true) s → IsPin s ⊎ HasFootOn (λ v. (among r.wires v ≡ true) × (v ≢ w)) s
  rests_way s (inl h) = inl h
  rests_way (stand.Pin n) (inr h) = elim h [ ]
  rests_way (stand.Feet x y) (inr (first h)) = inr (first (on_way x.wire.0 h))
  rests_way (stand.Feet x y) (inr (second h)) = inr (second (on_way y.wire.0 h))

  pub way_is : IsWay k ss w r
  way_is = record {
    route = route;
    crosses = λ c on. among_both (λ c. keeps_cross k c ≡ true) p.crosses a.cross.0 routes.routes.left.crosses feet.one.kept c (subst (λ cs. among cs c ≡ true) longer.crosses on);
    end = way_end;
    wires = λ u on differ. among_both (λ u. u ≢ w → RestsOn ss (λ v. (among r.wires v ≡ true) × (v ≢ w)) u) p.wires w
        (λ v h other. let t = routes.routes.left.wires v h in record { place = t.place; at = t.at; rests = rests_way t.at.step.stand t.rests })
        (λ n. absurd (n refl)) u (subst (λ us. among us u ≡ true) way_wires on) differ;
  }

pub feet_turned : {k : Kept} {ss : List VerifiedWire} {w : ℕ} {a b : Support} → AreFeetOf k ss w a b → AreFeetOf k ss w b a
feet_turned f = record { n = f.n; one = f.other; other = f.one; differ = λ e. f.differ (sym e); late = f.late }

pub ways_are : {k : Kept} {ss : List VerifiedWire} {w : ℕ} {a b : Support} → AreFeetOf k ss w a b → {p q r t : Walk} → AreRoutesTo k ss a.wire.0 b.wire.0 p q →
    Extends k.shape a.cross.0 p r → IsRoute k.shape r → Extends k.shape b.cross.0 q t → IsRoute k.shape t → AreWays k ss w r t
ways_are {k} {ss} {w} {a} {b} feet {p} {q} {r} {t} routes longer route further other = record {
  first = way_is feet routes longer route;
  second = way_is (feet_turned feet) (routes_to_turned routes) further other;
  meet = λ u on also. among_both (λ v. among t.wires v ≡ true → v ≡ w) p.wires w
      (λ v left. λ right. among_both (λ x. among p.wires x ≡ true → x ≡ w) q.wires w
      (λ x there here. absurd (false≢true (sym (routes.routes.apart x here) ∙ there))) (λ h. refl) v (subst (λ us. among us v ≡ true) (way_wires (feet_turned feet) (routes_to_turned routes) further other) right) left)
      (λ h. refl) u (subst (λ us. among us u ≡ true) (way_wires feet routes longer route) on) also;
}

-- the ways to a pin
pub ways_at_pin : (k : Kept) (ss : List VerifiedWire) (m : Shape) (pin : ℕ) {p q : Walk} → k.shape ≡ m → p ≡ at_pin m pin → q ≡ at_pin m pin → IsRoute m p → IsRoute m q → AreWays k ss (pin_wire k.shape pin) p q
ways_at_pin k ss m pin {p} {q} same e f r s = record {
  first = one p (e ∙ ap (λ (x : Shape). at_pin x pin) (sym same)) (subst (λ (x : Shape). IsRoute x p) (sym same) r);
  second = one q (f ∙ ap (λ (x : Shape). at_pin x pin) (sym same)) (subst (λ (x : Shape). IsRoute x q) (sym same) s);
  meet = λ u on also. sym (among_one (pin_wire k.shape pin) u (subst (λ (x : Walk). among x.wires u ≡ true) (e ∙ ap (λ (x : Shape). at_pin x pin) (sym same)) on));
}
  where
    at_itself : IsRoute k.shape (at_pin k.shape pin) → IsWay k ss (pin_wire k.shape pin) (at_pin k.shape pin)
    at_itself route = record {
      route = route;
      crosses = λ x h. absurd (false≢true h);
      end = refl;
      wires = λ u on differ. absurd (differ (sym (among_one (pin_wire k.shape pin) u on)));
    }

    one : (x : Walk) → x ≡ at_pin k.shape pin → IsRoute k.shape x → IsWay k ss (pin_wire k.shape pin) x
    one x e route = subst (IsWay k ss (pin_wire k.shape pin)) (sym e) (at_itself (subst (IsRoute k.shape) e route))

-- the feet of a known wire
pub known_feet : {k : Kept} {known : KnownWires} → IsKnown k known → {i w : ℕ} → IsAt known.steps i w → (s : VerifiedWire) (a b : Support) → slice_get known.steps i ≡ Some s → s.stand ≡ stand.Feet a b → AreFeetOf k known.steps w a b
known_feet {k} {known} is {i} {w} at s a b here e = record {
  n = i;
  one = subst (λ u. IsFoot k known.steps i u a) same on.one;
  other = subst (λ u. IsFoot k known.steps i u b) same on.other;
  differ = on.differ;
  late = λ early. not_early is here e (subst (IsEarly known.steps i) (sym same) early);
}
  where
    on : StandsOn k known.steps i s.wire.0 a b
    on = feet_here is i s a b here e

    same : s.wire.0 ≡ w
    same = at_one (record { step = s; here = here; wire = refl }) at
