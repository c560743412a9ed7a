-- Walks over the trees that are reached beside a route.
use Rattle.std.proofs.Common.{◌≡◌, ◌⊎◌, ℕ, zero, suc, ◌+◌, ◌<◌, Bool, true, false, Some, List, [], ◌∷◌, ◌++◌, length, refl, sym, ap, ◌∙◌, subst, inl, inr, arith, get_or, set, slice_get}
use Rattle.diag_known.proofs.Vocabulary.{false≢true, slice_get-get_or, Wire, Ends, in_order, turned, ends_of, crosses_of, pin_wire, among}
use Rattle.diag_known.proofs.Vocabulary.{LeadsTo-end, Walk, IsRoute, other_end, Extends, at_pin, among-push, among_both, Kept, keeps_cross}
use Rattle.diag_known.proofs.Vocabulary.{Reach, Down, Support, SupportedBy, VerifiedWire}
use native.Mathlib.Decide.{dec_lt}
use Rattle.diag_known.specs.Vocabulary.{KnownWires, IsAt, IsBefore, HasWire, IsFoot, IsKnown, IsPin, IsPinAt, IsPinHere, Stays, IsFrom, HangsOn, own, by_first, by_second, AreTrees, IsTie, HangsAt, IsFromAt, HangsAlong, Hangs, IsTreeWalk, GoesOn, GoesBelow, GoesTo, AreBefore, Leads, HasTree, AreTreeWalks, IsOnWalk, StayOn, upper_of}
use Rattle.diag_known.specs.declared.verified_wire.SupportedBy.TheVariants as stand
use Rattle.diag_known.proofs.Places.{one_place, some_same, before_has, feet_here, pin_here, at_one, both_pins, get_before, get_last, get_pushed}
use Rattle.diag_known.proofs.Rising.{foot_end, among_one}

-- one foot more, and one less
pub hangs_more : {k : Kept} {rs : List Reach} {pin : ℕ} (u : ℕ) (feet : List Support) {w : ℕ} {a : Support} → Hangs k rs pin u feet w → IsTie k rs pin w a → Hangs k rs pin u (feet ++ a ∷ []) a.wire.0
hangs_more {k} {rs} {pin} u [] {w} {a} e t = (subst (λ v. IsTie k rs pin v a) (sym e) t, refl)
hangs_more u (b ∷ feet) h t = (h.0, hangs_more b.wire.0 feet h.1 t)

-- the foot that is left last
pub record HangsLess (k : Kept) (rs : List Reach) (pin u : ℕ) (feet : List Support) (a : Support) (w : ℕ) : Type 0 where
  pub upper : ℕ
  pub hangs : Hangs k rs pin u feet upper
  pub tie : IsTie k rs pin upper a
  pub lower : a.wire.0 ≡ w

pub hangs_less : {k : Kept} {rs : List Reach} {pin : ℕ} (u : ℕ) (feet : List Support) (a : Support) {w : ℕ} → Hangs k rs pin u (feet ++ a ∷ []) w → HangsLess k rs pin u feet a w
hangs_less u [] a h = record { upper = u; hangs = refl; tie = h.0; lower = h.1 }
hangs_less u (b ∷ feet) a h = let r = hangs_less b.wire.0 feet a h.1 in record { upper = r.upper; hangs = (h.0, r.hangs); tie = r.tie; lower = r.lower }

ends_turned : {p : ℕ × ℕ} {a b : ℕ} → Ends p a b → Ends p b a
ends_turned (in_order s t) = turned s t
ends_turned (turned s t) = in_order s t

-- the end of a tree's walk
pub walk_end : {k : Kept} {rs : List Reach} {r : Walk} → IsTreeWalk k rs r → among r.wires r.end ≡ true
walk_end t = LeadsTo-end t.route.leads

pub walk_known : {k : Kept} {ss : List VerifiedWire} {rs : List Reach} {r : Walk} → AreTrees ss rs → IsTreeWalk k rs r → HasWire ss r.end
walk_known {r = r} trees t = trees.known r.end r.pin (t.wires r.end (walk_end t))

pub goes_none : {k : Kept} {rs : List Reach} {r : Walk} → IsTreeWalk k rs r → GoesOn k rs r r
goes_none t = record { walk = t; pin = refl; stays = λ w on. on }

pub goes_then : {k : Kept} {rs : List Reach} {a b c : Walk} → GoesOn k rs a b → GoesOn k rs b c → GoesOn k rs a c
goes_then g h = record { walk = h.walk; pin = h.pin ∙ g.pin; stays = λ w on. h.stays w (g.stays w on) }

-- a step over a kept crosspoint to a wire of the tree
module _ {k : Kept} {rs : List Reach} {old new : Walk} (t : IsTreeWalk k rs old) (x e : ℕ) (longer : Extends k.shape x old new) (route : IsRoute k.shape new)
    (kept : keeps_cross k x ≡ true) (to : other_end k.shape x old.end ≡ e) (from : IsFrom rs old.pin e) where
  pub step_end : new.end ≡ e
  step_end = longer.end ∙ to

  wires_are : new.wires ≡ old.wires ++ e ∷ []
  wires_are = longer.wires ∙ ap (λ w. old.wires ++ w ∷ []) step_end

  pub step_on : GoesOn k rs old new
  step_on = record {
    walk = record {
      route = route;
      crosses = λ c on. among_both (λ c. keeps_cross k c ≡ true) old.crosses x t.crosses kept c (subst (λ cs. among cs c ≡ true) longer.crosses on);
      wires = λ w on. subst (λ p. IsFrom rs p w) (sym longer.pin) (among_both (IsFrom rs old.pin) old.wires e t.wires from w (subst (λ ws. among ws w ≡ true) wires_are on));
    };
    pin = longer.pin;
    stays = λ w on. ap (λ ws. among ws w) wires_are ∙ among-push old.wires e w ∙ rw on refl;
  }

-- The walk's end stands at the one place. At the other stands a wire of the tree, on which the wire u hangs.
pub record GoesDown (k : Kept) (ss : List VerifiedWire) (rs : List Reach) (old : Walk) (u : ℕ) (walk : Walk) (ups : List Support) (i j : ℕ) : Type 0 where
  pub on : GoesOn k rs old walk
  pub end : IsAt ss i walk.end
  pub low : ℕ
  pub low_at : IsAt ss j low
  pub low_from : IsFrom rs old.pin low
  pub hangs : Hangs k rs old.pin u ups low

pub down_none : {k : Kept} {ss : List VerifiedWire} {rs : List Reach} {walk : Walk} {u i j : ℕ} (ups : List Support) → ups ≡ [] → IsTreeWalk k rs walk → IsFrom rs walk.pin u → IsAt ss i walk.end → IsAt ss j u → GoesDown k ss rs walk u walk ups i j
down_none {k} {ss} {rs} {walk} {u} ups empty t f at there = record { on = goes_none t; end = at; low = u; low_at = there; low_from = f; hangs = subst (λ feet. Hangs k rs walk.pin u feet u) (sym empty) refl }

pub down_met : {k : Kept} {ss : List VerifiedWire} {rs : List Reach} {old walk : Walk} {u i j : ℕ} {ups : List Support} → GoesDown k ss rs old u walk ups i j → i ≡ j → GoesBelow k rs old walk u ups
down_met {k} {ss} {rs} {old} {walk} {u} {i} {j} {ups} g e = record {
  on = g.on;
  hangs = subst (Hangs k rs old.pin u ups) (at_one (subst (λ p. IsAt ss p g.low) (sym e) g.low_at) g.end) g.hangs;
}

-- both places are of the tree
module _ {k : Kept} {ss : List VerifiedWire} {rs : List Reach} {old walk : Walk} {u i j : ℕ} {ups : List Support} (g : GoesDown k ss rs old u walk ups i j) where
  pub left_from : IsFromAt ss rs walk.pin i
  left_from = record { step = g.end.step; here = g.end.here; from = subst (IsFrom rs walk.pin) (sym g.end.wire) (g.on.walk.wires walk.end (walk_end g.on.walk)) }

  pub right_from : IsFromAt ss rs walk.pin j
  right_from = record { step = g.low_at.step; here = g.low_at.here; from = subst (λ p. IsFrom rs p g.low_at.step.wire.0) (sym g.on.pin) (subst (IsFrom rs old.pin) (sym g.low_at.wire) g.low_from) }

-- one step down
module _ {k : Kept} {ss : List VerifiedWire} {rs : List Reach} {old walk : Walk} {u i j : ℕ} {ups : List Support} (g : GoesDown k ss rs old u walk ups i j) {pin : ℕ} (here : pin ≡ walk.pin) {d : Down} (hang : HangsAlong k ss rs pin i j d) where
  h : HangsAlong k ss rs walk.pin i j d
  h = subst (λ p. HangsAlong k ss rs p i j d) here hang

  pub down_before : AreBefore ss i j d
  down_before = record { left = λ e. (h.left e).before; right = λ e. (h.right e).before }

  pub down_known : HasWire ss d.foot.wire.0
  down_known = by_side d.left refl
    where
      by_side : (b : Bool) → d.left ≡ b → HasWire ss d.foot.wire.0
      by_side true e = before_has (h.left e).before
      by_side false e = before_has (h.right e).before

  pub down_within : d.foot.cross.0 < crosses_of k.shape
  down_within = by_side d.left refl
    where
      by_side : (b : Bool) → d.left ≡ b → d.foot.cross.0 < crosses_of k.shape
      by_side true e = (h.left e).tie.within
      by_side false e = (h.right e).tie.within

  end_is : (e : d.left ≡ true) → (h.left e).step.wire.0 ≡ walk.end
  end_is e = at_one (record { step = (h.left e).step; here = (h.left e).here; wire = refl }) g.end

  pub left_ends : (e : d.left ≡ true) → Ends (ends_of k.shape d.foot.cross.0) walk.end d.foot.wire.0
  left_ends e = subst (λ w. Ends (ends_of k.shape d.foot.cross.0) w d.foot.wire.0) (end_is e) (ends_turned (h.left e).tie.at)

  pub went_left : {new : Walk} {feet : List Support} {v z : ℕ} → d.left ≡ true → Extends k.shape d.foot.cross.0 walk new → IsRoute k.shape new → feet ≡ ups → Leads ss d i j v z → GoesDown k ss rs old u new feet v z
  went_left {new} {feet} {v} {z} e longer route same to =
      let tie = (h.left e).tie in
      let end = foot_end k.shape d.foot.cross.0 walk.end d.foot.wire.0 (left_ends e) in
      let step = step_on g.on.walk d.foot.cross.0 d.foot.wire.0 longer route tie.kept end tie.below in
      let at = (to.left e).0 in
      record {
        on = goes_then g.on step;
        end = record { step = at.step; here = at.here; wire = at.wire ∙ sym (step_end g.on.walk d.foot.cross.0 d.foot.wire.0 longer route tie.kept end tie.below) };
        low = g.low;
        low_at = subst (λ p. IsAt ss p g.low) (sym (to.left e).1) g.low_at;
        low_from = g.low_from;
        hangs = subst (λ fs. Hangs k rs old.pin u fs g.low) (sym same) g.hangs;
      }

  pub went_right : {new : Walk} {feet : List Support} {v z : ℕ} → d.left ≡ false → new ≡ walk → feet ≡ ups ++ d.foot ∷ [] → Leads ss d i j v z → GoesDown k ss rs old u new feet v z
  went_right {new} {feet} {v} {z} e same more to =
      let tie : IsTie k rs old.pin g.low d.foot = subst (λ p. IsTie k rs p g.low d.foot) g.on.pin (subst (λ w. IsTie k rs walk.pin w d.foot)
      (at_one (record { step = (h.right e).step; here = (h.right e).here; wire = refl }) g.low_at) (h.right e).tie) in
      subst (λ r. GoesDown k ss rs old u r feet v z) (sym same) (record {
        on = g.on;
        end = subst (λ p. IsAt ss p walk.end) (sym (to.right e).1) g.end;
        low = d.foot.wire.0;
        low_at = (to.right e).0;
        low_from = tie.below;
        hangs = subst (λ fs. Hangs k rs old.pin u fs d.foot.wire.0) (sym more) (hangs_more u ups g.hangs tie);
      })

  pub went_down : {new : Walk} {feet : List Support} {v z : ℕ} → (d.left ≡ true → Extends k.shape d.foot.cross.0 walk new × IsRoute k.shape new × (feet ≡ ups)) → (d.left ≡ false → (new ≡ walk) × (feet ≡ ups ++ d.foot ∷ [])) →
      Leads ss d i j v z → GoesDown k ss rs old u new feet v z
  went_down {new} {feet} {v} {z} left right to = by_side d.left refl
    where
      by_side : (b : Bool) → d.left ≡ b → GoesDown k ss rs old u new feet v z
      by_side true e = let l = left e in went_left e l.0 l.1 l.2 to
      by_side false e = let r = right e in went_right e r.0 r.1 to

-- the wire at the end of feet that are left, as a walk that goes up takes it
upper_is : (k : Kept) (rs : List Reach) (pin u : ℕ) (feet : List Support) {w : ℕ} → Hangs k rs pin u feet w → upper_of u feet ≡ w
upper_is k rs pin u [] h = h
upper_is k rs pin u (b ∷ feet) h = upper_is k rs pin b.wire.0 feet h.1

pub upper_last : (u : ℕ) (feet : List Support) (i : ℕ) (a : Support) → i + 1 ≡ length feet → slice_get feet i ≡ Some a → upper_of u feet ≡ a.wire.0
upper_last u [] i a e at = absurd (let no : ⊥ = omega (arith, e) in no)
upper_last u (b ∷ []) zero a e at = ap (λ (x : Support). x.wire.0) (some_same at)
upper_last u (b ∷ []) (suc i) a e at = absurd (let no : ⊥ = omega (arith, e) in no)
upper_last u (b ∷ c ∷ feet) zero a e at = absurd (let no : ⊥ = omega (arith, e) in no)
upper_last u (b ∷ c ∷ feet) (suc i) a e at = upper_last b.wire.0 (c ∷ feet) i a (omega (arith, e)) at

-- up over feet that are left
pub record GoesUp (k : Kept) (rs : List Reach) (old : Walk) (u : ℕ) (walk : Walk) (ups : List Support) : Type 0 where
  pub on : GoesOn k rs old walk
  pub hangs : Hangs k rs old.pin u ups walk.end

pub up_all : {k : Kept} {rs : List Reach} {old walk : Walk} {u : ℕ} (ups : List Support) → ups ≡ [] → GoesUp k rs old u walk ups → GoesTo k rs old walk u
up_all {k} {rs} {old} {walk} {u} ups empty g =
    let here : u ≡ walk.end = subst (λ feet. Hangs k rs old.pin u feet walk.end) empty g.hangs in
    record { on = g.on; over = ap (among walk.wires) here ∙ walk_end g.on.walk }

module _ {k : Kept} {rs : List Reach} {old walk : Walk} {u : ℕ} (ups feet : List Support) (a : Support) (split : ups ≡ feet ++ a ∷ []) (g : GoesUp k rs old u walk ups) where
  less : HangsLess k rs old.pin u feet a walk.end
  less = hangs_less u feet a (subst (λ fs. Hangs k rs old.pin u fs walk.end) split g.hangs)

  ends_up : Ends (ends_of k.shape a.cross.0) walk.end less.upper
  ends_up = subst (λ w. Ends (ends_of k.shape a.cross.0) w less.upper) less.lower less.tie.at

  pub up_ends : Ends (ends_of k.shape a.cross.0) walk.end (upper_of u feet)
  up_ends = subst (λ w. Ends (ends_of k.shape a.cross.0) walk.end w) (sym (upper_is k rs old.pin u feet less.hangs)) ends_up

  pub up_within : a.cross.0 < crosses_of k.shape
  up_within = less.tie.within

  pub went_up : {new : Walk} → Extends k.shape a.cross.0 walk new → IsRoute k.shape new → GoesUp k rs old u new feet
  went_up {new} longer route =
      let end = foot_end k.shape a.cross.0 walk.end less.upper ends_up in
      let from : IsFrom rs walk.pin less.upper = subst (λ p. IsFrom rs p less.upper) (sym g.on.pin) less.tie.here in
      record {
        on = goes_then g.on (step_on g.on.walk a.cross.0 less.upper longer route less.tie.kept end from);
        hangs = subst (Hangs k rs old.pin u feet) (sym (step_end g.on.walk a.cross.0 less.upper longer route less.tie.kept end from)) less.hangs;
      }

-- where a step down leads
pub leads_less : {k : Kept} {known : KnownWires} → IsKnown k known → {i u v : ℕ} → IsBefore known.steps i v → IsAt known.steps u v → u < i
leads_less is {i} {u} b at = let early = b.early in let same : b.place ≡ u = one_place is b.at at in omega (arith, early, same)

-- the pin of a tree
pub record IsRoot (k : Kept) (ss : List VerifiedWire) (rs : List Reach) (pin : ℕ) : Type 0 where
  pub place : ℕ
  pub pin_at : IsPinAt k ss place pin
  pub from : IsFrom rs pin (pin_wire k.shape pin)

module _ {k : Kept} {known : KnownWires} (is : IsKnown k known) {rs : List Reach} (trees : AreTrees known.steps rs) where
  abbrev ss : List VerifiedWire
  ss = known.steps

  root_by : (i : ℕ) (s : VerifiedWire) (pin : ℕ) → slice_get ss i ≡ Some s → IsFrom rs pin s.wire.0 → ((j : ℕ) → j < i → (v : ℕ) → IsAt ss j v → IsFrom rs pin v → IsRoot k ss rs pin) → {d : SupportedBy} → s.stand ≡ d → HangsOn rs pin d → IsRoot k ss rs pin
  root_by i s pin here f below e own =
      let at = pin_here is i s pin here e in
      let same : s ≡ at.step = some_same (sym here ∙ at.here) in
      record { place = i; pin_at = at; from = subst (IsFrom rs pin) (ap (λ (x : VerifiedWire). x.wire.0) same ∙ at.wire) f }
  root_by i s pin here f below e (by_first {a} {b} h) = let on = feet_here is i s a b here e in below on.one.before.place on.one.before.early a.wire.0 on.one.before.at h
  root_by i s pin here f below e (by_second {a} {b} h) = let on = feet_here is i s a b here e in below on.other.before.place on.other.before.early b.wire.0 on.other.before.at h

  root_to : (n i : ℕ) → i < n → (v pin : ℕ) → IsAt ss i v → IsFrom rs pin v → IsRoot k ss rs pin
  root_to zero i h v pin at f = absurd (let none : ⊥ = omega (arith, h) in none)
  root_to (suc n) i h v pin at f =
      let f_step : IsFrom rs pin at.step.wire.0 = subst (IsFrom rs pin) (sym at.wire) f in
      root_by i at.step pin at.here f_step (λ j below u on g. root_to n j (omega (arith, h, below)) u pin on g) refl (trees.hangs i at.step pin at.here f_step)

  pub root : {pin : ℕ} → HasTree rs pin → IsRoot k ss rs pin
  root {pin} t = let has = trees.known t.wire pin t.from in root_to (suc has.place) has.place (omega arith) t.wire pin has.at t.from

  -- a wire of a tree that is a pin is the tree's
  pin_of : {pin : ℕ} {d : SupportedBy} → IsPin d → HangsOn rs pin d → d ≡ stand.Pin pin
  pin_of p own = refl
  pin_of p (by_first h) = elim p [ ]
  pin_of p (by_second h) = elim p [ ]

  pin_from : {pin i : ℕ} → IsFromAt ss rs pin i → IsPinHere ss i → IsPinAt k ss i pin
  pin_from {pin} {i} f p = pin_here is i f.step pin f.here (pin_of (subst (λ (x : VerifiedWire). IsPin x.stand) (some_same (sym p.here ∙ f.here)) p.pin) (trees.hangs i f.step pin f.here f.from))

  pub they_meet : {pin i j : ℕ} → IsFromAt ss rs pin i → IsFromAt ss rs pin j → Stays ss i j → Stays ss j i → i ≡ j
  they_meet {pin} {i} {j} f g s t =
      let p = pin_from f (both_pins s t) in let q = pin_from g (both_pins t s) in
      one_place is {w = pin_wire k.shape pin} (record { step = p.step; here = p.here; wire = p.wire }) (record { step = q.step; here = q.here; wire = q.wire })

  -- the foot on which a wire hangs
  pub hangs_at : (pin i : ℕ) (s : VerifiedWire) (a b foot : Support) → slice_get ss i ≡ Some s → s.stand ≡ stand.Feet a b → IsFrom rs pin s.wire.0 → (foot ≡ a) ⊎ (foot ≡ b) → IsFrom rs pin foot.wire.0 → HangsAt k ss rs pin i foot
  hangs_at pin i s a b foot here e f which below = record { step = s; here = here; tie = record { within = is_foot.within; kept = is_foot.kept; at = is_foot.at; here = f; below = below }; before = is_foot.before }
    where
      by_which : (foot ≡ a) ⊎ (foot ≡ b) → IsFoot k ss i s.wire.0 foot
      by_which (inl x) = subst (IsFoot k ss i s.wire.0) (sym x) (feet_here is i s a b here e).one
      by_which (inr x) = subst (IsFoot k ss i s.wire.0) (sym x) (feet_here is i s a b here e).other

      is_foot : IsFoot k ss i s.wire.0 foot
      is_foot = by_which which

  -- of one that stands on feet
  pub hangs_on : (pin i : ℕ) (s : VerifiedWire) (a b : Support) → slice_get ss i ≡ Some s → s.stand ≡ stand.Feet a b → IsFrom rs pin s.wire.0 → HangsOn rs pin (stand.Feet a b)
  hangs_on pin i s a b here e f = subst (HangsOn rs pin) e (trees.hangs i s pin here f)

-- the step at a place of a tree
pub from_here : {ss : List VerifiedWire} {rs : List Reach} {pin i : ℕ} {s : VerifiedWire} → IsFromAt ss rs pin i → slice_get ss i ≡ Some s → IsFrom rs pin s.wire.0
from_here {rs = rs} {pin = pin} f here = subst (λ (x : VerifiedWire). IsFrom rs pin x.wire.0) (some_same (sym f.here ∙ here)) f.from

-- the walk that is a pin alone
pub root_walk : {k : Kept} {ss : List VerifiedWire} {rs : List Reach} {pin : ℕ} {r : Walk} → IsRoot k ss rs pin → r ≡ at_pin k.shape pin → IsRoute k.shape r → IsTreeWalk k rs r
root_walk {k} {ss} {rs} {pin} {r} root same route = subst (IsTreeWalk k rs) (sym same) (record {
  route = subst (IsRoute k.shape) same route;
  crosses = λ x on. absurd (false≢true on);
  wires = λ w on. subst (IsFrom rs pin) (among_one (pin_wire k.shape pin) w on) root.from;
})

-- wanted wires one after the other
module _ (P : ℕ → Type 0) (wanted : List Wire) (n : ℕ) (below : n < length wanted) where
  pub wanted_more : ((j : ℕ) (w : Wire) → j < n → slice_get wanted j ≡ Some w → P w.0) → P (get_or wanted n (record { 0 = 0 })).0 → (j : ℕ) (w : Wire) → j < n + 1 → slice_get wanted j ≡ Some w → P w.0
  wanted_more old this j w lt at = by_less (dec_lt j n)
    where
      by_less : Dec (j < n) → P w.0
      by_less (yes h) = old j w h at
      by_less (no h) =
          let same : n ≡ j = omega (arith, h, lt) in
          let is : get_or wanted n (record { 0 = 0 }) ≡ w = some_same (sym (slice_get-get_or wanted n (record { 0 = 0 }) below) ∙ ap (slice_get wanted) same ∙ at) in
          subst (λ (x : Wire). P x.0) is this

-- one walk more
module _ (old new : List Walk) (r : Walk) (more : new ≡ old ++ r ∷ []) where
  pub walks_pushed : {k : Kept} {rs : List Reach} → AreTreeWalks k rs old → IsTreeWalk k rs r → AreTreeWalks k rs new
  walks_pushed {k} {rs} are one j q here = by_place (get_pushed old r j q (subst (λ qs. slice_get qs j ≡ Some q) more here))
    where
      by_place : (slice_get old j ≡ Some q) ⊎ ((j ≡ length old) × (r ≡ q)) → IsTreeWalk k rs q
      by_place (inl before) = are j q before
      by_place (inr last) = subst (IsTreeWalk k rs) last.1 one

  pub stay_pushed : StayOn old new
  stay_pushed w on = subst (λ qs. IsOnWalk qs w) (sym more) (record { place = on.place; route = on.route; here = get_before old (r ∷ []) on.place on.route on.here; on = on.on })

  pub on_pushed : (w : ℕ) → among r.wires w ≡ true → IsOnWalk new w
  on_pushed w over = subst (λ qs. IsOnWalk qs w) (sym more) (record { place = length old; route = r; here = get_last old r; on = over })

next_place : {P : Type 0} {j n : ℕ} → P ⊎ (j ≡ n) → P ⊎ (suc j ≡ suc n)
next_place (inl p) = inl p
next_place (inr e) = inr (ap suc e)

-- a list that is changed at one place
module _ {A : Type 0} where
  get_set : (xs : List A) (n : ℕ) (x y : A) → slice_get xs n ≡ Some x → slice_get (set xs n y) n ≡ Some y
  get_set [] n x y e = cc
  get_set (z ∷ xs) zero x y e = refl
  get_set (z ∷ xs) (suc n) x y e = get_set xs n x y e

  get_unset : (xs : List A) (n : ℕ) (y : A) (j : ℕ) (q : A) → slice_get (set xs n y) j ≡ Some q → (slice_get xs j ≡ Some q) ⊎ (y ≡ q)
  get_unset [] n y j q e = inl e
  get_unset (z ∷ xs) zero y zero q e = inr cc
  get_unset (z ∷ xs) zero y (suc j) q e = inl e
  get_unset (z ∷ xs) (suc n) y zero q e = inl e
  get_unset (z ∷ xs) (suc n) y (suc j) q e = get_unset xs n y j q e

  get_other : (xs : List A) (n : ℕ) (y : A) (j : ℕ) (q : A) → slice_get xs j ≡ Some q → (slice_get (set xs n y) j ≡ Some q) ⊎ (j ≡ n)
  get_other [] n y j q e = inl e
  get_other (z ∷ xs) zero y zero q e = inr refl
  get_other (z ∷ xs) zero y (suc j) q e = inl e
  get_other (z ∷ xs) (suc n) y zero q e = inl e
  get_other (z ∷ xs) (suc n) y (suc j) q e = next_place (get_other xs n y j q e)

-- one of some walks goes on
module _ (routes : List Walk) (n : ℕ) (r s : Walk) (at : slice_get routes n ≡ Some r) where
  pub walks_set : {k : Kept} {rs : List Reach} → AreTreeWalks k rs routes → IsTreeWalk k rs s → AreTreeWalks k rs (set routes n s)
  walks_set {k} {rs} are one j q here = by_place (get_unset routes n s j q here)
    where
      by_place : (slice_get routes j ≡ Some q) ⊎ (s ≡ q) → IsTreeWalk k rs q
      by_place (inl old) = are j q old
      by_place (inr e) = subst (IsTreeWalk k rs) e one

  pub stay_set : ((w : ℕ) → among r.wires w ≡ true → among s.wires w ≡ true) → StayOn routes (set routes n s)
  stay_set stays w on = by_place (get_other routes n s on.place on.route on.here)
    where
      by_place : (slice_get (set routes n s) on.place ≡ Some on.route) ⊎ (on.place ≡ n) → IsOnWalk (set routes n s) w
      by_place (inl here) = record { place = on.place; route = on.route; here = here; on = on.on }
      by_place (inr e) = record {
        place = n;
        route = s;
        here = get_set routes n r s at;
        on = stays w (subst (λ (x : Walk). among x.wires w ≡ true) (some_same (sym on.here ∙ ap (slice_get routes) e ∙ at)) on.on);
      }

  pub on_set : (w : ℕ) → among s.wires w ≡ true → IsOnWalk (set routes n s) w
  on_set w over = record { place = n; route = s; here = get_set routes n r s at; on = over }
