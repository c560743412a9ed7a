-- Routes from two pins up along a descent.
use Rattle.std.proofs.Common.{◌≡◌, ◌≢◌, ◌⊎◌, ℕ, ◌<◌, Bool, true, false, Some, List, [], ◌∷◌, ◌++◌, refl, sym, ap, ◌∙◌, subst, inl, inr, arith, slice_get, ◌==◌, AllPairs}
use Rattle.diag_known.proofs.Vocabulary.{false≢true, nat_tests, Shape, among, LeadsTo-end, Walk, IsRoute, other_end, Extends, at_pin}
use Rattle.diag_known.proofs.Vocabulary.{among-push, among_both, at_pin_is, Kept, keeps_cross, Down, Support, SupportedBy, VerifiedWire}
use Rattle.machine_shape.specs.Shape.{Ends, in_order, turned, ends_of, pin_wire, crosses_of, wires_of}
use Rattle.diag_known.specs.Vocabulary.{KnownWires, IsAt, IsKnown, IsPin, is_pin, HasFootOn, first, second, RestsOn, IsEarly, IsKnownRoute, AreRoutes, AreRoutesTo, StepsDown, Goes, Descends, DescendsTo, IsPinAt}
use Rattle.diag_known.specs.declared.verified_wire.SupportedBy.TheVariants as stand
use Rattle.diag_known.proofs.Once.{once_alone, once_more}
use Rattle.diag_known.proofs.Places.{one_place, some_same, at_one}

-- one step more, and one less
pub descends_more : {k : Kept} {ss : List VerifiedWire} (i j : ℕ) (ds : List Down) {m n u v : ℕ} {d : Down} → Descends k ss i j ds m n → Goes k ss d m n u v → Descends k ss i j (ds ++ d ∷ []) u v
descends_more {k} {ss} i j [] {m} {n} {u} {v} {d} p g = (u, v, subst (λ x. Goes k ss d x j u v) (sym p.0) (subst (λ y. Goes k ss d m y u v) (sym p.1) g), (refl, refl))
descends_more i j (e ∷ ds) p g = (p.0, p.1, p.2, descends_more p.0 p.1 ds p.3 g)

pub descends_less : {k : Kept} {ss : List VerifiedWire} (i j : ℕ) (ds : List Down) (d : Down) {u v : ℕ} → Descends k ss i j (ds ++ d ∷ []) u v →
    (m : ℕ) × (n : ℕ) × Descends k ss i j ds m n × Goes k ss d m n u v
descends_less {k} {ss} i j [] d {u} {v} p = (i, j, (refl, refl), subst (λ x. Goes k ss d i j x v) p.3.0 (subst (λ y. Goes k ss d i j p.0 y) p.3.1 p.2))
descends_less i j (e ∷ ds) d p = let r = descends_less p.0 p.1 ds d p.3 in (r.0, r.1, (p.0, p.1, p.2, r.2), r.3)

-- what is among one wire
pub among_one : (x w : ℕ) → among (x ∷ []) w ≡ true → x ≡ w
among_one x w e = among_both (λ y. x ≡ y) [] x (λ y h. absurd (false≢true h)) refl w e

pub not_true : (b : Bool) → (b ≡ true → ⊥) → b ≡ false
not_true true n = absurd (n refl)
not_true false n = refl

-- the other end of a foot's crosspoint
pub foot_end : (m : Shape) (x a w : ℕ) → Ends (ends_of m x) a w → other_end m x a ≡ w
foot_end m x a w (in_order s t) = let same : ((ends_of m x).0 == a) ≡ true = grind (arith, nat_tests, s) in rw same t
foot_end m x a w (turned s t) = by_test ((ends_of m x).0 == a) refl
  where
    by_test : (b : Bool) → ((ends_of m x).0 == a) ≡ b → other_end m x a ≡ w
    by_test true e = let same : (ends_of m x).0 ≡ a = grind (arith, nat_tests, e) in rw e (t ∙ sym same ∙ s)
    by_test false e = rw e s

-- routes the other way round
pub routes_turned : {k : Kept} {ss : List VerifiedWire} {p q : Walk} → AreRoutes k ss p q → AreRoutes k ss q p
routes_turned {p = p} r = record {
  left = r.right;
  right = r.left;
  apart = λ w is. not_true (among p.wires w) (λ on. false≢true (sym (r.apart w on) ∙ is));
}

pub routes_to_turned : {k : Kept} {ss : List VerifiedWire} {a b : ℕ} {p q : Walk} → AreRoutesTo k ss a b p q → AreRoutesTo k ss b a q p
routes_to_turned {p = p} {q = q} r = record {
  routes = routes_turned r.routes;
  left_end = r.right_end;
  right_end = r.left_end;
  left_once = r.right_once;
  right_once = r.left_once;
  early = λ n x y w on. r.early n y x w (other w on);
}
  where
    other : (w : ℕ) → (among q.wires w ≡ true) ⊎ (among p.wires w ≡ true) → (among p.wires w ≡ true) ⊎ (among q.wires w ≡ true)
    other w (inl h) = inr h
    other w (inr h) = inl h

-- the routes that are two pins alone
pub pin_known : {k : Kept} {ss : List VerifiedWire} {i pin : ℕ} → IsPinAt k ss i pin → pin_wire k.shape pin < wires_of k.shape → IsKnownRoute k ss (at_pin k.shape pin)
pin_known {k} {ss} {i} {pin} p within = record {
  route = at_pin_is k.shape pin p.within within;
  crosses = λ x h. absurd (false≢true h);
  wires = λ w is. record {
    place = i;
    at = record { step = p.step; here = p.here; wire = p.wire ∙ among_one (pin_wire k.shape pin) w is };
    rests = inl (subst IsPin (sym p.stand) is_pin);
  };
}

module _ {k : Kept} {known : KnownWires} (is : IsKnown k known) where
  abbrev ss : List VerifiedWire
  ss = known.steps

  pub two_pins : {i j left right : ℕ} → IsPinAt k ss i left → IsPinAt k ss j right → i ≢ j → pin_wire k.shape left < wires_of k.shape → pin_wire k.shape right < wires_of k.shape →
      AreRoutesTo k ss (pin_wire k.shape left) (pin_wire k.shape right) (at_pin k.shape left) (at_pin k.shape right)
  two_pins {i} {j} {left} {right} p q differ low high = record {
    routes = record {
      left = pin_known p low;
      right = pin_known q high;
      apart = λ w on. not_true _ (λ also. differ (one_place is
          (record { step = p.step; here = p.here; wire = p.wire ∙ among_one (pin_wire k.shape left) w on })
          (record { step = q.step; here = q.here; wire = q.wire ∙ among_one (pin_wire k.shape right) w also })));
    };
    left_end = refl;
    right_end = refl;
    left_once = once_alone (pin_wire k.shape left);
    right_once = once_alone (pin_wire k.shape right);
    early = λ n a b w on. early_one n w a b on;
  }
    where
      early_one : (n w : ℕ) → IsEarly ss n (pin_wire k.shape left) → IsEarly ss n (pin_wire k.shape right) →
          (among (pin_wire k.shape left ∷ []) w ≡ true) ⊎ (among (pin_wire k.shape right ∷ []) w ≡ true) → IsEarly ss n w
      early_one n w a b (inl on) = subst (IsEarly ss n) (among_one (pin_wire k.shape left) w on) a
      early_one n w a b (inr on) = subst (IsEarly ss n) (among_one (pin_wire k.shape right) w on) b

  -- A wire on feet isn't early at its own place.
  pub not_early : {i : ℕ} {step : VerifiedWire} {a b : Support} → slice_get ss i ≡ Some step → step.stand ≡ stand.Feet a b → IsEarly ss i step.wire.0 → ⊥
  not_early {i} {step} {a} {b} here feet e = by_why e.early
    where
      same : e.place ≡ i
      same = one_place is e.at (record { step = step; here = here; wire = refl })

      step_is : e.at.step ≡ step
      step_is = some_same (sym e.at.here ∙ ap (slice_get ss) same ∙ here)

      no_pin : {s : SupportedBy} → IsPin s → s ≡ stand.Feet a b → ⊥
      no_pin is_pin eq = cc

      by_why : IsPin e.at.step.stand ⊎ (e.place < i) → ⊥
      by_why (inl p) = no_pin p (ap (λ (s : VerifiedWire). s.stand) step_is ∙ feet)
      by_why (inr h) = omega (arith, h, same)

  -- Routes to a foot and another wire go on to the wire that stepped down.
  module _ {i j : ℕ} {foot : Support} (d : StepsDown k ss i j foot) {p q r : Walk} (routes : AreRoutesTo k ss foot.wire.0 d.other.wire.0 p q) (longer : Extends k.shape foot.cross.0 p r) (route : IsRoute k.shape r) where
    abbrev pub x : ℕ
    x = d.step.wire.0

    abbrev pub y : ℕ
    y = d.other.wire.0

    x_late : IsEarly ss i x → ⊥
    x_late = by_feet d.below.1
      where
        by_feet : (d.step.stand ≡ stand.Feet foot d.below.0) ⊎ (d.step.stand ≡ stand.Feet d.below.0 foot) → IsEarly ss i x → ⊥
        by_feet (inl e) = not_early d.here e
        by_feet (inr e) = not_early d.here e

    foot_early : (n : ℕ) → IsEarly ss n x → IsEarly ss n foot.wire.0
    foot_early n e = by_why e.early
      where
        same : e.place ≡ i
        same = one_place is e.at (record { step = d.step; here = d.here; wire = refl })

        by_why : IsPin e.at.step.stand ⊎ (e.place < n) → IsEarly ss n foot.wire.0
        by_why (inl pin) = absurd (x_late (record { place = e.place; at = e.at; early = inl pin }))
        by_why (inr h) = record { place = d.stands.before.place; at = d.stands.before.at; early = inr (let b = d.stands.before.early in omega (arith, h, same, b)) }

    here_early : IsEarly ss i foot.wire.0
    here_early = record { place = d.stands.before.place; at = d.stands.before.at; early = inr d.stands.before.early }

    other_early : IsEarly ss i y
    other_early = record { place = j; at = record { step = d.other; here = d.there; wire = refl }; early = d.early }

    -- x is on neither route
    off : (w : ℕ) → (among p.wires w ≡ true) ⊎ (among q.wires w ≡ true) → x ≡ w → ⊥
    off w on same = x_late (subst (IsEarly ss i) (sym same) (routes.early i here_early other_early w on))

    end_is : r.end ≡ x
    end_is = longer.end ∙ ap (other_end k.shape foot.cross.0) routes.left_end ∙ foot_end k.shape foot.cross.0 foot.wire.0 x d.stands.at

    wires_are : r.wires ≡ p.wires ++ x ∷ []
    wires_are = longer.wires ∙ ap (λ w. p.wires ++ w ∷ []) end_is

    on_it : (w : ℕ) → among p.wires w ≡ true → among r.wires w ≡ true
    on_it w is_on = ap (λ ws. among ws w) wires_are ∙ among-push p.wires x w ∙ rw is_on refl

    foot_on : among r.wires foot.wire.0 ≡ true
    foot_on = on_it foot.wire.0 (subst (λ w. among p.wires w ≡ true) routes.left_end end_on)
      where
        end_on : among p.wires p.end ≡ true
        end_on = LeadsTo-end routes.routes.left.route.leads

    x_rests : RestsOn ss (λ u. among r.wires u ≡ true) x
    x_rests = record { place = i; at = record { step = d.step; here = d.here; wire = refl }; rests = inr (by_feet d.below.1) }
      where
        by_feet : (d.step.stand ≡ stand.Feet foot d.below.0) ⊎ (d.step.stand ≡ stand.Feet d.below.0 foot) → HasFootOn (λ u. among r.wires u ≡ true) d.step.stand
        by_feet (inl e) = subst (HasFootOn (λ u. among r.wires u ≡ true)) (sym e) (first foot_on)
        by_feet (inr e) = subst (HasFootOn (λ u. among r.wires u ≡ true)) (sym e) (second foot_on)

    rests_more : (s : SupportedBy) → IsPin s ⊎ HasFootOn (λ u. among p.wires u ≡ true) s → IsPin s ⊎ HasFootOn (λ u. among r.wires u ≡ true) s
    rests_more s (inl h) = inl h
    rests_more (stand.Pin n) (inr h) = elim h [ ]
    rests_more (stand.Feet a b) (inr (first h)) = inr (first (on_it a.wire.0 h))
    rests_more (stand.Feet a b) (inr (second h)) = inr (second (on_it b.wire.0 h))

    all_rest : (w : ℕ) → among r.wires w ≡ true → RestsOn ss (λ u. among r.wires u ≡ true) w
    all_rest w on = among_both (RestsOn ss (λ u. among r.wires u ≡ true)) p.wires x
        (λ v h. let t = routes.routes.left.wires v h in record { place = t.place; at = t.at; rests = rests_more t.at.step.stand t.rests }) x_rests w (subst (λ ws. among ws w ≡ true) wires_are on)

    pub risen : AreRoutesTo k ss x y r q
    risen = record {
      routes = record {
        left = record {
          route = route;
          crosses = λ c on. among_both (λ c. keeps_cross k c ≡ true) p.crosses foot.cross.0 routes.routes.left.crosses d.stands.kept c (subst (λ cs. among cs c ≡ true) longer.crosses on);
          wires = all_rest;
        };
        right = routes.routes.right;
        apart = λ w on. among_both (λ w. among q.wires w ≡ false) p.wires x routes.routes.apart (not_true (among q.wires x) (λ on. off x (inr on) refl)) w (subst (λ ws. among ws w ≡ true) wires_are on);
      };
      left_end = end_is;
      right_end = routes.right_end;
      left_once = subst (λ (ws : List ℕ). AllPairs (λ v u. v ≢ u) ws) (sym wires_are) (once_more p.wires x routes.left_once (not_true (among p.wires x) (λ on. off x (inl on) refl)));
      right_once = routes.right_once;
      early = λ n a b. early_more n a b;
    }
      where
        early_more : (n : ℕ) → IsEarly ss n x → IsEarly ss n y → (w : ℕ) → (among r.wires w ≡ true) ⊎ (among q.wires w ≡ true) → IsEarly ss n w
        early_more n a b w (inl on) = among_both (IsEarly ss n) p.wires x (λ v h. routes.early n (foot_early n a) b v (inl h)) a w (subst (λ ws. among ws w ≡ true) wires_are on)
        early_more n a b w (inr on) = routes.early n (foot_early n a) b w (inr on)

-- Routes so far, on the way up: to where these steps lead down.
pub record IsRising (k : Kept) (ss : List VerifiedWire) (i j : ℕ) (ds : List Down) (p q : Walk) : Type 0 where
  pub m : ℕ
  pub n : ℕ
  pub steps : Descends k ss i j ds m n
  pub left : IsAt ss m p.end
  pub right : IsAt ss n q.end
  pub routes : AreRoutesTo k ss p.end q.end p q

pub pin_within : (m : Shape) (n : ℕ) → IsRoute m (at_pin m n) → pin_wire m n < wires_of m
pin_within m n route = route.wires (pin_wire m n) (LeadsTo-end route.leads)

module _ {k : Kept} {known : KnownWires} (is : IsKnown k known) where
  pub rising_start : {i j left right : ℕ} {ds : List Down} → DescendsTo k known.steps i j ds left right → pin_wire k.shape left < wires_of k.shape → pin_wire k.shape right < wires_of k.shape →
      IsRising k known.steps i j ds (at_pin k.shape left) (at_pin k.shape right)
  rising_start d low high = record {
    m = d.m;
    n = d.n;
    steps = d.steps;
    left = record { step = d.left_pin.step; here = d.left_pin.here; wire = d.left_pin.wire };
    right = record { step = d.right_pin.step; here = d.right_pin.here; wire = d.right_pin.wire };
    routes = two_pins is d.left_pin d.right_pin d.differ low high;
  }

  pub rising_at : {i j left right : ℕ} {ds : List Down} (m : Shape) → m ≡ k.shape → DescendsTo k known.steps i j ds left right → {p q : Walk} → p ≡ at_pin m left → q ≡ at_pin m right → IsRoute m p → IsRoute m q →
      IsRising k known.steps i j ds p q
  rising_at {i} {j} {left} {right} {ds} m same d {p} {q} e f r s =
      let one : p ≡ at_pin k.shape left = e ∙ ap (λ (x : Shape). at_pin x left) same in
      let other : q ≡ at_pin k.shape right = f ∙ ap (λ (x : Shape). at_pin x right) same in
      let low = pin_within k.shape left (subst (IsRoute k.shape) one (subst (λ (x : Shape). IsRoute x p) same r)) in
      let high = pin_within k.shape right (subst (IsRoute k.shape) other (subst (λ (x : Shape). IsRoute x q) same s)) in
      subst (λ (x : Walk). IsRising k known.steps i j ds x q) (sym one) (subst (λ (y : Walk). IsRising k known.steps i j ds (at_pin k.shape left) y) (sym other) (rising_start d low high))

  -- the last of the steps, upwards
  module _ {i j : ℕ} (ds : List Down) (d : Down) {p q : Walk} (up : IsRising k known.steps i j (ds ++ d ∷ []) p q) where
    last : (m : ℕ) × (n : ℕ) × Descends k known.steps i j ds m n × Goes k known.steps d m n up.m up.n
    last = descends_less i j ds d up.steps

    -- of the left route
    module _ (e : d.left ≡ true) where
      at_left : p.end ≡ d.foot.wire.0
      at_left = at_one up.left ((last.3.left e).1)

      left_step : StepsDown k known.steps last.0 last.1 d.foot
      left_step = (last.3.left e).0

      other_left : q.end ≡ left_step.other.wire.0
      other_left = at_one (subst (λ x. IsAt known.steps x q.end) (last.3.left e).2 up.right) (record { step = left_step.other; here = left_step.there; wire = refl })

      pub left_within : d.foot.cross.0 < crosses_of k.shape
      left_within = left_step.stands.within

      over_left : d.over.0 ≡ left_step.step.wire.0
      over_left = at_one (last.3.over.left e) (record { step = left_step.step; here = left_step.here; wire = refl })

      pub left_end : Ends (ends_of k.shape d.foot.cross.0) p.end d.over.0
      left_end = subst (λ a. Ends (ends_of k.shape d.foot.cross.0) a d.over.0) (sym at_left) (subst (λ w. Ends (ends_of k.shape d.foot.cross.0) d.foot.wire.0 w) (sym over_left) left_step.stands.at)

      pub left_up : {r : Walk} → Extends k.shape d.foot.cross.0 p r → IsRoute k.shape r → IsRising k known.steps i j ds r q
      left_up {r} longer route = record {
        m = last.0;
        n = last.1;
        steps = last.2;
        left = record { step = left_step.step; here = left_step.here; wire = sym then_routes.left_end };
        right = record { step = left_step.other; here = left_step.there; wire = sym other_left };
        routes = subst (λ b. AreRoutesTo k known.steps r.end b r q) (sym other_left) (subst (λ a. AreRoutesTo k known.steps a left_step.other.wire.0 r q) (sym then_routes.left_end) then_routes);
      }
        where
          then_routes : AreRoutesTo k known.steps left_step.step.wire.0 left_step.other.wire.0 r q
          then_routes = risen is left_step (subst (λ b. AreRoutesTo k known.steps d.foot.wire.0 b p q) other_left (subst (λ a. AreRoutesTo k known.steps a q.end p q) at_left up.routes)) longer route

    -- of the right route
    module _ (e : d.left ≡ false) where
      at_right : q.end ≡ d.foot.wire.0
      at_right = at_one up.right ((last.3.right e).1)

      right_step : StepsDown k known.steps last.1 last.0 d.foot
      right_step = (last.3.right e).0

      other_right : p.end ≡ right_step.other.wire.0
      other_right = at_one (subst (λ x. IsAt known.steps x p.end) (last.3.right e).2 up.left) (record { step = right_step.other; here = right_step.there; wire = refl })

      pub right_within : d.foot.cross.0 < crosses_of k.shape
      right_within = right_step.stands.within

      over_right : d.over.0 ≡ right_step.step.wire.0
      over_right = at_one (last.3.over.right e) (record { step = right_step.step; here = right_step.here; wire = refl })

      pub right_end : Ends (ends_of k.shape d.foot.cross.0) q.end d.over.0
      right_end = subst (λ a. Ends (ends_of k.shape d.foot.cross.0) a d.over.0) (sym at_right) (subst (λ w. Ends (ends_of k.shape d.foot.cross.0) d.foot.wire.0 w) (sym over_right) right_step.stands.at)

      pub right_up : {r : Walk} → Extends k.shape d.foot.cross.0 q r → IsRoute k.shape r → IsRising k known.steps i j ds p r
      right_up {r} longer route = record {
        m = last.0;
        n = last.1;
        steps = last.2;
        left = record { step = right_step.other; here = right_step.there; wire = sym other_right };
        right = record { step = right_step.step; here = right_step.here; wire = sym then_routes.left_end };
        routes = routes_to_turned (subst (λ b. AreRoutesTo k known.steps r.end b r p) (sym other_right) (subst (λ a. AreRoutesTo k known.steps a right_step.other.wire.0 r p) (sym then_routes.left_end) then_routes));
      }
        where
          then_routes : AreRoutesTo k known.steps right_step.step.wire.0 right_step.other.wire.0 r p
          then_routes = risen is right_step (subst (λ b. AreRoutesTo k known.steps d.foot.wire.0 b q p) other_right (subst (λ a. AreRoutesTo k known.steps a p.end q p) at_right (routes_to_turned up.routes))) longer route

  -- at the top
  pub risen_to : {i j a b : ℕ} {p q : Walk} → IsRising k known.steps i j [] p q → IsAt known.steps i a → IsAt known.steps j b → AreRoutesTo k known.steps a b p q
  risen_to {i} {j} {a} {b} {p} {q} up at on =
      let left : p.end ≡ a = at_one (subst (λ x. IsAt known.steps x p.end) (sym up.steps.0) up.left) at in
      let right : q.end ≡ b = at_one (subst (λ x. IsAt known.steps x q.end) (sym up.steps.1) up.right) on in
      subst (λ y. AreRoutesTo k known.steps a y p q) right (subst (λ x. AreRoutesTo k known.steps x q.end p q) left up.routes)
