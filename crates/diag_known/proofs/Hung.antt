-- A wire that hangs on what is reached beside a way: a toggle of a crosspoint from it to the way's end passes.
use Rattle.std.proofs.Common.{◌≡◌, ◌≢◌, ◌⊎◌, ℕ, zero, suc, ◌<◌, Bool, true, false, Some, None, Option, List, [], ◌∷◌, ◌++◌, refl, sym, ap, ◌∙◌, subst, inl, inr, arith, slice_get, ◌==◌, ◌||◌}
use Rattle.diag_known.proofs.Vocabulary.{false≢true, nat_tests, list_any-append, Cross, Shape, Ends, ends_of, pin_wire, crosses_of, Pins}
use Rattle.diag_known.proofs.Vocabulary.{Faults, stuck_cross, Shorted, IsClear, Ends-swap, Configuration, among, IsWithin, LeadsTo, ends}
use Rattle.diag_known.proofs.Vocabulary.{goes, IsLoop, IsDrivenIn, LeadsTo-start, LeadsTo-end, LeadsTo-within, among_both, holds_earlier}
use Rattle.diag_known.proofs.Vocabulary.{untried_crosses, grown, loop_of_lists, Reach, Offer, Support, VerifiedWire}
use Rattle.diag_tests.specs.Vocabulary.{Walk, IsRoute, cross_numbers, IsLoopConfig}
use Rattle.diag_evidence.specs.Vocabulary.{Kept, HoldsUntried, IsMore, IsLoopBy, CrossPasses, wires_over}
use Rattle.diag_known.specs.Vocabulary.{KnownWires, HasWire, IsKnown, IsOffer, IsHanging, InSome, IsOn, IsHung, HangsNot, ArePulled, HasNoneBeside, reach_at, IsReached, AreTrees, IsTreeWalk, IsOnWalk, IsLinkTo, IsFit, IsFaulty, IsWay}
use Rattle.diag_known.specs.declared.beside.Reach.TheVariants as reach
use Rattle.diag_known.proofs.Adding.{later_one}
use Rattle.diag_known.proofs.Marking.{fit_faultless}
use Rattle.diag_known.proofs.Passing.{rests_known, among_last, among_before, two_ends, both_within, known_clear, known_unshorted}
use Rattle.diag_known.proofs.Places.{some_same}

-- the same configuration and drive, by other names of the lists
pub laid_as : {m : Shape} {q : Walk} {xs ys : List Cross} {g : Configuration} → xs ≡ ys → IsLoopConfig m q q (cross_numbers xs) g → IsLoopConfig m q q (cross_numbers ys) g
laid_as {m} {q} {g = g} same laid = subst (λ (xs : List Cross). IsLoopConfig m q q (cross_numbers xs) g) same laid

pub pulled_as : {rs ss : List Walk} {drive : Pins} → rs ≡ ss → ArePulled rs drive → ArePulled ss drive
pulled_as {drive = drive} same pulled = subst (λ (rs : List Walk). ArePulled rs drive) same pulled

either : (a b : Bool) → (a || b) ≡ true → (a ≡ true) ⊎ (b ≡ true)
either true b e = inl refl
either false b e = inr e

or_first : (a b : Bool) → a ≡ true → (a || b) ≡ true
or_first a b e = rw e refl

or_other : (a b : Bool) → b ≡ true → (a || b) ≡ true
or_other true b e = refl
or_other false b e = e

-- the wires of routes
pub over_at : (rs : List Walk) (j w : ℕ) (r : Walk) → slice_get rs j ≡ Some r → among r.wires w ≡ true → among (wires_over rs) w ≡ true
over_at [] j w r e on = cc
over_at (s ∷ rs) zero w r e on = list_any-append (λ z. z == w) s.wires (wires_over rs) ∙ or_first (among s.wires w) (among (wires_over rs) w) (ap (λ (x : Walk). among x.wires w) (some_same e) ∙ on)
over_at (s ∷ rs) (suc j) w r e on = list_any-append (λ z. z == w) s.wires (wires_over rs) ∙ or_other (among s.wires w) (among (wires_over rs) w) (over_at rs j w r e on)

pub at_over : (rs : List Walk) (w : ℕ) → among (wires_over rs) w ≡ true → IsOnWalk rs w
at_over [] w on = absurd (false≢true on)
at_over (r ∷ rs) w on = by_side (either (among r.wires w) (among (wires_over rs) w) (sym (list_any-append (λ z. z == w) r.wires (wires_over rs)) ∙ on)) (at_over rs w)
  where
    by_side : (among r.wires w ≡ true) ⊎ (among (wires_over rs) w ≡ true) → (among (wires_over rs) w ≡ true → IsOnWalk rs w) → IsOnWalk (r ∷ rs) w
    by_side (inl h) more = record { place = 0; route = r; here = refl; on = h }
    by_side (inr h) more = let p = more h in record { place = suc p.place; route = p.route; here = p.here; on = p.on }

-- the walk as far as a wire of it
pub record Begins (m : Shape) (a : ℕ) (xs ws : List ℕ) (u : ℕ) : Type 0 where
  pub crosses : List ℕ
  pub wires : List ℕ
  pub leads : LeadsTo m a crosses wires u
  pub some_crosses : (x : ℕ) → among crosses x ≡ true → among xs x ≡ true
  pub some_wires : (w : ℕ) → among wires w ≡ true → among ws w ≡ true

pub begins : {m : Shape} {a e : ℕ} {xs ws : List ℕ} → LeadsTo m a xs ws e → (u : ℕ) → among ws u ≡ true → Begins m a xs ws u
begins {m} {a} ends u on = by_test (a == u) refl
  where
    by_test : (b : Bool) → (a == u) ≡ b → Begins m a [] (a ∷ []) u
    by_test true e = subst (Begins m a [] (a ∷ [])) (grind (arith, nat_tests, e)) (record { crosses = []; wires = a ∷ []; leads = ends; some_crosses = λ x h. h; some_wires = λ w h. h })
    by_test false e = absurd (false≢true (later_one (a == u) false e on))
begins {m} {a} (goes {b = b} {x = y} {xs = ys} {ws = ws} below at more) u on = by_test (a == u) refl (λ later. begins more u later)
  where
    by_test : (t : Bool) → (a == u) ≡ t → (among ws u ≡ true → Begins m b ys ws u) → Begins m a (y ∷ ys) (a ∷ ws) u
    by_test true e tail = subst (Begins m a (y ∷ ys) (a ∷ ws)) (grind (arith, nat_tests, e)) (record { crosses = []; wires = a ∷ []; leads = ends; some_crosses = λ x h. absurd (false≢true h); some_wires = λ w h. head_only a w ws h })
      where
        head_only : (a w : ℕ) (ws : List ℕ) → among (a ∷ []) w ≡ true → among (a ∷ ws) w ≡ true
        head_only a w ws h = by_side (either (a == w) false h)
          where
            by_side : ((a == w) ≡ true) ⊎ (false ≡ true) → among (a ∷ ws) w ≡ true
            by_side (inl e) = or_first (a == w) (among ws w) e
            by_side (inr e) = absurd (false≢true e)
    by_test false e tail =
        let rest = tail (later_one (a == u) (among ws u) e on) in record {
          crosses = y ∷ rest.crosses;
          wires = a ∷ rest.wires;
          leads = goes below at rest.leads;
          some_crosses = λ x h. tail_also y x rest.crosses ys (rest.some_crosses x) h;
          some_wires = λ w h. tail_also a w rest.wires ws (rest.some_wires w) h;
        }
      where
        tail_also : (z x : ℕ) (us vs : List ℕ) → (among us x ≡ true → among vs x ≡ true) → among (z ∷ us) x ≡ true → among (z ∷ vs) x ≡ true
        tail_also z x us vs also h = by_side (either (z == x) (among us x) h)
          where
            by_side : ((z == x) ≡ true) ⊎ (among us x ≡ true) → among (z ∷ vs) x ≡ true
            by_side (inl e) = or_first (z == x) (among vs x) e
            by_side (inr e) = or_other (z == x) (among vs x) (also e)

laid_same : (a b t : Bool) → (b ≡ true → t ≡ true) → (a || (a || t)) ≡ (b || (a || t))
laid_same true true t h = refl
laid_same true false t h = refl
laid_same false true t h = h refl
laid_same false false t h = refl

-- what is reached is known, and off the route
pub reached_known : {ss : List VerifiedWire} {rs : List Reach} {u : ℕ} → AreTrees ss rs → IsReached rs u → HasWire ss u
reached_known {u = u} trees r = trees.known u r.pin r.from

pub reached_off : {rs : List Reach} (q : Walk) {u : ℕ} → ((w : ℕ) → among q.wires w ≡ true → reach_at rs w ≡ reach.OnRoute) → IsReached rs u → among q.wires u ≡ true → ⊥
reached_off {rs} q {u} on r h = let one = on u h in let other = r.from.at in cc

-- a wire of a way is known, if its end is
pub way_known : {k : Kept} {ss : List VerifiedWire} {x : ℕ} {q : Walk} → IsWay k ss x q → HasWire ss x → (u : ℕ) → among q.wires u ≡ true → HasWire ss u
way_known {k} {ss} {x} {q} way has u on = by_test (u == x) refl
  where
    by_test : (b : Bool) → (u == x) ≡ b → HasWire ss u
    by_test true e = subst (HasWire ss) (sym (grind (arith, nat_tests, e))) has
    by_test false e = rests_known (way.wires u on (grind (arith, nat_tests, e)))

module _ {k : Kept} {known : KnownWires} (is : IsKnown k known) {o : Offer} (offer : IsOffer k.shape known.steps o) {q : Walk} (way : IsWay k known.steps o.foot.wire.0 q) {routes : List Walk} {ties : List ℕ}
    (h : IsHanging k known.steps o q routes ties) {f : Faults} (holds : HoldsUntried k f) (fit : IsFit k.shape f known.steps o.wire.0) (free : stuck_cross f o.foot.cross.0 ≡ None) where
  abbrev w : ℕ
  w = o.wire.0

  abbrev c : ℕ
  c = o.foot.cross.0

  abbrev hung : ℕ → Bool
  hung = among (wires_over routes ++ w ∷ [])

  on_walk : (u : ℕ) → IsOnWalk routes u → IsReached h.rs u
  on_walk u p = record { pin = p.route.pin; from = (h.walks.each p.place p.route p.here).wires u p.on }

  walk_known : (u : ℕ) → among (wires_over routes) u ≡ true → HasWire known.steps u
  walk_known u on = reached_known h.trees (on_walk u (at_over routes u on))

  on_way : (u : ℕ) → among q.wires u ≡ true → HasWire known.steps u
  on_way = way_known way offer.foot.known

  clear_hung : (u : ℕ) → hung u ≡ true → IsClear k.shape f u
  clear_hung = among_both (IsClear k.shape f) (wires_over routes) w (λ u on. known_clear is holds (walk_known u on)) fit.clear

  apart_hung : (u v : ℕ) → hung u ≡ true → among q.wires v ≡ true → ¬ Shorted k.shape f u v
  apart_hung u v on other = among_both (λ u. ¬ Shorted k.shape f u v) (wires_over routes) w
      (λ u on. known_unshorted is holds (walk_known u on) (on_way v other) (λ e. reached_off q h.on (on_walk u (at_over routes u on)) (subst (λ z. among q.wires z ≡ true) (sym e) other)))
      (fit.alone v (on_way v other)) u on

  other_end_hung : (j : ℕ) (a : Support) → slice_get o.others.items j ≡ Some a → IsReached h.rs a.wire.0 → hung a.wire.0 ≡ true
  other_end_hung j a here reached =
      let on = h.walks.over j a.wire (h.wanted j a here) reached in
      among_before (wires_over routes) w a.wire.0 (over_at routes on.place a.wire.0 on.route on.here on.on)

  tie_within : (y : ℕ) → among ties y ≡ true → y ≢ c → IsWithin k.shape hung y ⊎ IsWithin k.shape (among q.wires) y
  tie_within y on n = from_old (h.laid.only y on)
    where
      from_new : InSome routes IsOn y ⊎ InSome o.others.items (IsHung h.rs) y → IsWithin k.shape hung y ⊎ IsWithin k.shape (among q.wires) y
      from_new (inl p) = inl (grown p.item.wires (λ u i. among_before (wires_over routes) w u (over_at routes p.place u p.item p.here i)) (LeadsTo-within ((h.walks.each p.place p.item p.here).route.leads) y p.so))
      from_new (inr p) = inl (subst (IsWithin k.shape hung) p.so.1 (both_within ((offer.others p.place p.item p.here).at) (other_end_hung p.place p.item p.here p.so.0) (among_last (wires_over routes) w)))

      from_old : (among (c ∷ []) y ≡ true) ⊎ (InSome routes IsOn y ⊎ InSome o.others.items (IsHung h.rs) y) → IsWithin k.shape hung y ⊎ IsWithin k.shape (among q.wires) y
      from_old (inl e) = absurd (n (among_both (λ y. y ≡ c) [] c (λ y no_one. absurd (false≢true no_one)) refl y e))
      from_old (inr p) = from_new p

  -- one of the others, which isn't stuck
  module _ (j : ℕ) (a : Support) (here : slice_get o.others.items j ≡ Some a) (reached : IsReached h.rs a.wire.0) (also_free : stuck_cross f a.cross.0 ≡ None) where
    pub walk_to : IsOnWalk routes a.wire.0
    walk_to = h.walks.over j a.wire (h.wanted j a here) reached

    tree : IsTreeWalk k h.rs walk_to.route
    tree = h.walks.each walk_to.place walk_to.route walk_to.here

    start : Begins k.shape (pin_wire k.shape walk_to.route.pin) walk_to.route.crosses walk_to.route.wires a.wire.0
    start = begins tree.route.leads a.wire.0 walk_to.on

    abbrev near : Walk
    near = record { pin = walk_to.route.pin; crosses = start.crosses; wires = start.wires; end = a.wire.0 }

    near_route : IsRoute k.shape near
    near_route = record {
      pin = tree.route.pin;
      leads = start.leads;
      crosses = λ x on. tree.route.crosses x (start.some_crosses x on);
      wires = λ u on. tree.route.wires u (start.some_wires u on);
    }

    near_tie : (x : ℕ) → among near.crosses x ≡ true → among ties x ≡ true
    near_tie x on = h.laid.has x (inl (record { place = walk_to.place; item = walk_to.route; here = walk_to.here; so = start.some_crosses x on }))

    near_hung : (u : ℕ) → among near.wires u ≡ true → hung u ≡ true
    near_hung u on = among_before (wires_over routes) w u (over_at routes walk_to.place u walk_to.route walk_to.here (start.some_wires u on))

    laid_near : {m : Shape} {g : Configuration} → IsLoopConfig m q q ties g → IsLoopConfig m near q ties g
    laid_near laid = record {
      shape = laid.shape;
      closed = λ x. laid.closed x ∙ laid_same (among q.crosses x) (among near.crosses x) (among ties x) (near_tie x);
      tables = laid.tables;
      off = laid.off;
      ticks = laid.ticks;
    }

    link : IsLinkTo k.shape known.steps w a
    link = offer.others j a here

    other_cross : a.cross.0 ≢ c
    other_cross e = two_ends offer.foot.at (subst (λ x. Ends (ends_of k.shape x) a.wire.0 w) e link.at) (λ same. offer.differ j a here (sym same)) (λ same. offer.new (subst (HasWire known.steps) same offer.foot.known))

    hung_by : IsLoopBy k.shape f near q ties c hung (among q.wires)
    hung_by = record {
      left_in = near_hung;
      right_in = λ u on. on;
      ties_in = tie_within;
      left_clear = clear_hung;
      right_clear = λ u on. known_clear is holds (on_way u on);
      apart = apart_hung;
      free = free;
      near = w;
      far = q.end;
      at = Ends-swap (subst (λ e. Ends (ends_of k.shape c) e w) (sym way.end) offer.foot.at);
      near_left = among_last (wires_over routes) w;
      far_right = LeadsTo-end way.route.leads;
      lefts = a.cross.0 ∷ [];
      left_way = a.wire.0 ∷ w ∷ [];
      leads_left = goes link.within link.at ends;
      left_ties = ((h.laid.has a.cross.0 (inr (record { place = j; item = a; here = here; so = (reached, refl) })), (other_cross, also_free)), tt);
      rights = [];
      right_way = q.end ∷ [];
      leads_right = ends;
      right_ties = tt;
    }

    tied : among ties c ≡ true
    tied = h.laid.stays c (among_last [] c)

    pub hung_loop : (g : Configuration) → IsLoopConfig k.shape q q ties g → IsLoop f g c hung (among q.wires) walk_to.route.pin q.pin
    hung_loop g laid = loop_of_lists f g near q ties c hung (among q.wires)
        (turn (λ m. IsLoopConfig m near q ties g) (laid_near laid)) (turn (λ m. IsRoute m near) near_route) (turn (λ m. IsRoute m q) way.route)
        (λ y on. untried_crosses k holds y (tree.crosses y (start.some_crosses y on))) (λ y on. untried_crosses k holds y (way.crosses y on)) tied (turn (λ m. IsLoopBy m f near q ties c hung (among q.wires)) hung_by)
      where
        turn : (P : Shape → Type 0) → P k.shape → P g.shape
        turn P p = subst P (sym laid.shape) p

    pub hung_driven : (drive : Pins) → ArePulled routes drive → IsDrivenIn k.shape drive walk_to.route.pin hung
    hung_driven drive pulled = record {
      low = pulled.low walk_to.place walk_to.route walk_to.here;
      within = λ p low. let on = pulled.only p low in
          subst (λ p. hung (pin_wire k.shape p) ≡ true) on.so
          (among_before (wires_over routes) w (pin_wire k.shape on.item.pin) (over_at routes on.place (pin_wire k.shape on.item.pin) on.item on.here (LeadsTo-start ((h.walks.each on.place on.item on.here).route.leads))));
    }

    pub hung_passes : {told : Option Faults} {g : Configuration} {drive : Pins} {answer : Bool} → told ≡ Some f → IsLoopConfig k.shape q q ties g → ArePulled routes drive → CrossPasses told g c drive q.pin answer → answer ≡ true
    hung_passes {g = g} {drive = drive} told_is laid pulled passes =
        passes.at f hung (among q.wires) walk_to.route.pin told_is (hung_loop g laid) (subst (λ m. IsDrivenIn m drive walk_to.route.pin hung) (sym laid.shape) (hung_driven drive pulled))

-- what such a toggle tells
pub hung_lost : {told : Option Faults} {k l : Kept} {known : KnownWires} {o : Offer} {q : Walk} {routes : List Walk} {ties : List ℕ} {g : Configuration} {drive : Pins} {answer : Bool} → IsKnown k known → IsOffer k.shape known.steps o →
    IsWay k known.steps o.foot.wire.0 q → (h : IsHanging k known.steps o q routes ties) → IsLoopConfig k.shape q q ties g → ArePulled routes drive → CrossPasses told g o.foot.cross.0 drive q.pin answer → IsMore k l → answer ≡ false →
    HasNoneBeside told l known.steps o q
hung_lost {known = known} {o = o} is offer way h laid pulled passes more is_no = record {
  rs = h.rs;
  all = h.all;
  lost = λ j a here reached. record {
    at = λ f told_is holds fit free also.
        let before = holds_earlier more holds in
        false≢true (sym is_no ∙ hung_passes is offer way h before (subst (λ m. IsFit m f known.steps o.wire.0) more.shape fit) free j a here reached also told_is laid pulled passes);
  };
}

-- .. so without faults it passes
pub hung_sound : {told : Option Faults} {k : Kept} {known : KnownWires} {o : Offer} {q : Walk} {routes : List Walk} {ties : List ℕ} {g : Configuration} {drive : Pins} {answer : Bool} → IsKnown k known → IsOffer k.shape known.steps o →
    IsWay k known.steps o.foot.wire.0 q → IsHanging k known.steps o q routes ties → IsLoopConfig k.shape q q ties g → ArePulled routes drive → CrossPasses told g o.foot.cross.0 drive q.pin answer → answer ≡ false → IsFaulty told k
hung_sound {o = o} is offer way h laid pulled passes is_no = record {
  at = λ f told_is none holds. false≢true (sym is_no ∙ hung_passes is offer way h holds (fit_faultless none offer.new) (none.crosses o.foot.cross.0) h.some.place h.some.link h.some.here h.some.reached
      (none.crosses h.some.link.cross.0) told_is laid pulled passes);
}

-- .. and no toggle, where nothing is reached
pub none_hung : {told : Option Faults} {k : Kept} {ss : List VerifiedWire} {o : Offer} {q : Walk} → HangsNot ss o q → HasNoneBeside told k ss o q
none_hung h = record { rs = h.rs; all = h.all; lost = λ j a here reached. absurd (h.none j a here reached) }

-- the crosspoints that are closed are of the machine
pub hung_within : {k : Kept} {ss : List VerifiedWire} {o : Offer} {q : Walk} {routes : List Walk} {ties : List ℕ} → IsOffer k.shape ss o → IsHanging k ss o q routes ties → (x : ℕ) → among ties x ≡ true → x < crosses_of k.shape
hung_within {k} {ss} {o} {q} {routes} {ties} offer h x on = from_old (h.laid.only x on)
  where
    from_new : InSome routes IsOn x ⊎ InSome o.others.items (IsHung h.rs) x → x < crosses_of k.shape
    from_new (inl p) = (h.walks.each p.place p.item p.here).route.crosses x p.so
    from_new (inr p) = subst (λ y. y < crosses_of k.shape) p.so.1 ((offer.others p.place p.item p.here).within)

    from_old : (among (o.foot.cross.0 ∷ []) x ≡ true) ⊎ (InSome routes IsOn x ⊎ InSome o.others.items (IsHung h.rs) x) → x < crosses_of k.shape
    from_old (inl e) = among_both (λ y. y < crosses_of k.shape) [] o.foot.cross.0 (λ y none. absurd (false≢true none)) offer.foot.within x e
    from_old (inr p) = from_new p

pub hung_tied : {k : Kept} {ss : List VerifiedWire} {o : Offer} {q : Walk} {routes : List Walk} {ties : List ℕ} → IsHanging k ss o q routes ties → among ties o.foot.cross.0 ≡ true
hung_tied {o = o} h = h.laid.stays o.foot.cross.0 (among_last [] o.foot.cross.0)
