-- What is known of a crossbar is held.
use Rattle.std.proofs.Common.{◌≡◌, ◌≢◌, ◌⊎◌, ℕ, ◌<◌, true, Some, None, Option, List, refl, sym, ap, ◌∙◌, subst, inl, inr, arith, IfSome, IfNone, IsSome, slice_get}
use Rattle.diag_published.proofs.Vocabulary.{Shape, Wire, HasTwo, among, LeadsTo-end, Walk, Kept, keeps_cross, keeps_pair, pair_turned}
use Rattle.diag_published.proofs.Vocabulary.{IsListOf, IsKnownOf, IsOpenOf, AreTwoOf, AreBarOf, HasKnown, AreLaws}
use Rattle.machine_shape.specs.Shape.{Ends, in_order, turned, ends_of, crosses_of, nodes_of, node_of_cross, IsLine, IsTap, tap_pin, tap_port}
use Rattle.diag_known.specs.Known.{KnownWires, HasWire, IsAt, IsFoot, IsKnown, Stands, on_pin, on_feet}
use Rattle.diag_known.specs.declared.verified_wire.{Support.Support, SupportedBy.SupportedBy}
use Rattle.diag_known.proofs.Places.{at_one, before_has}
use Rattle.diag_published.specs.Held.{Findings, IsTrunkEnd, at_pin, at_port, IsHeldRoute, IsHeldTrunk, IsHeld, IsOpenPair, IsWireOf, of_tap, of_line, of_left, of_right, pair_numbers}
use native.Mathlib.Decide.{dec_lt}

-- the end of a trunk is a tap of its node
pub end_tap : (m : Shape) (n w : ℕ) → IsTrunkEnd m n w → IsTap m n w
end_tap m n w (at_pin k z h e) = tap_pin k z h e
end_tap m n w (at_port p) = tap_port p

module _ (k : Kept) (known : KnownWires) (laws : AreLaws k.shape) (is : IsKnown k known) (n : ℕ) (bar_taps bar_lines ts ls : List ℕ) (bar : AreBarOf k.shape n bar_taps bar_lines)
    (taps : IsListOf (IsKnownOf known bar_taps) ts) (lines : IsListOf (IsKnownOf known bar_lines) ls) where
  abbrev m : Shape
  m = k.shape

  tap_among : (w : ℕ) → IsTap m n w → HasWire known.steps w → among ts w ≡ true
  tap_among w t h = taps.all w (bar.taps.all w t, h)

  -- a foot of a line is a tap of its crossbar
  record IsFootOf (w : ℕ) (a : Support) : Type 0 where
    within : a.cross.0 < crosses_of m
    tap : (ends_of m a.cross.0).0 ≡ a.wire.0
    line : (ends_of m a.cross.0).1 ≡ w
    kept : keeps_cross k a.cross.0 ≡ true
    is_tap : among ts (ends_of m a.cross.0).0 ≡ true

  foot_is : (i w : ℕ) (a : Support) → IsLine m n w → IsFoot k known.steps i w a → IsFootOf w a
  foot_is i w a line foot = by foot.at
    where
      by : Ends (ends_of m a.cross.0) a.wire.0 w → IsFootOf w a
      by (in_order s t) = record {
        within = foot.within;
        tap = s;
        line = t;
        kept = foot.kept;
        is_tap = tap_among (ends_of m a.cross.0).0
            (subst (λ j. IsTap m j (ends_of m a.cross.0).0) (laws.homes.cross_of_line n w a.cross.0 foot.within t line) (laws.meetings.tap a.cross.0 foot.within))
            (subst (HasWire known.steps) (sym s) (before_has foot.before));
      }
      by (turned s t) = absurd (laws.homes.no_tap_is_line (node_of_cross m a.cross.0) n w (subst (IsTap m (node_of_cross m a.cross.0)) s (laws.meetings.tap a.cross.0 foot.within)) line)

  abbrev Joins : ℕ → ℕ → Type 0
  Joins w c = (c < crosses_of m) × ((ends_of m c).1 ≡ w) × (among ts (ends_of m c).0 ≡ true) × (keeps_cross k c ≡ true)

  line_joined : (w : ℕ) → among ls w ≡ true → HasTwo (Joins w)
  line_joined w on =
      let known_line = (lines.each w on).1 in
      let at = known_line.at in
      let step = is.steps known_line.place at.step at.here in
      by_stand known_line.place at.step.stand (subst (λ v. Stands k known.steps known_line.place v at.step.stand) at.wire step.stands)
    where
      line : IsLine m n w
      line = bar.lines.each w ((lines.each w on).0)

      by_stand : (i : ℕ) (s : SupportedBy) → Stands k known.steps i w s → HasTwo (Joins w)
      by_stand i _ (on_pin within e) = absurd (laws.tree.no_pin_is_line _ n within (subst (IsLine m n) e line))
      by_stand i _ (on_feet {a} {b} one other differ) =
          let x = foot_is i w a line one in
          let y = foot_is i w b line other in
          record {
            one = a.cross.0;
            two = b.cross.0;
            different = λ e. differ (sym x.tap ∙ ap (λ c. (ends_of m c).0) e ∙ y.tap);
            first = (x.within, x.line, x.is_tap, x.kept);
            second = (y.within, y.line, y.is_tap, y.kept);
          }

  pub held_is : (left right : Walk) (those : List ℕ) (pair : Option (Wire × Wire)) → n < nodes_of m → IsHeldTrunk k known n left right → IsListOf (IsOpenOf k ts ls) those → IfSome pair (λ p. AreTwoOf those p.0.0 p.1.0) →
      IsHeld k known (record { node = n; left = left; right = right; lines = ls; taps = ts; open_pair = pair_numbers pair })
  held_is left right those pair node trunk open_lines two = record {
    node = node;
    trunk = trunk;
    left_tap = end_among left trunk.left_route trunk.left_end;
    right_tap = end_among right trunk.right_route trunk.right_end;
    taps = λ w on. bar.taps.each w ((taps.each w on).0);
    lines = λ w on. bar.lines.each w ((lines.each w on).0);
    known_taps = λ w on. (taps.each w on).1;
    known_lines = λ w on. (lines.each w on).1;
    joined = line_joined;
    open_pair = by_pair pair two;
  }
    where
      end_among : (r : Walk) → IsHeldRoute k known r → IsTrunkEnd m n r.end → among ts r.end ≡ true
      end_among r route at = tap_among r.end (end_tap m n r.end at) (route.wires r.end (LeadsTo-end route.route.leads))

      t : Findings
      t = record { node = n; left = left; right = right; lines = ls; taps = ts; open_pair = pair_numbers pair }

      by_pair : (o : Option (Wire × Wire)) → IfSome o (λ p. AreTwoOf those p.0.0 p.1.0) → IfSome (pair_numbers o) (λ p. IsOpenPair k t p.0 p.1)
      by_pair None p = tt
      by_pair (Some p) two = record {
        differ = two.differ;
        first = (open_lines.each p.0.0 two.first).0;
        second = (open_lines.each p.1.0 two.second).0;
        crosses = λ c within which on. by_line c within on which;
      }
        where
          by_line : (c : ℕ) → c < crosses_of m → among ts (ends_of m c).0 ≡ true → ((ends_of m c).1 ≡ p.0.0) ⊎ ((ends_of m c).1 ≡ p.1.0) → keeps_cross k c ≡ true
          by_line c within on (inl e) = (open_lines.each p.0.0 two.first).1 c within e on
          by_line c within on (inr e) = (open_lines.each p.1.0 two.second).1 c within e on

  pub known_is : (left right : Walk) (those : List ℕ) (pair : Option (Wire × Wire)) → IsListOf (IsOpenOf k ts ls) those → IfNone pair ((w u : ℕ) → among those w ≡ true → among those u ≡ true → w ≡ u) →
      HasKnown k known (record { node = n; left = left; right = right; lines = ls; taps = ts; open_pair = pair_numbers pair })
  known_is left right those pair open_lines none = record {
    taps = λ w t h. tap_among w t h;
    lines = λ w l h. lines.all w (bar.lines.all w l, h);
    open_pair = by_pair pair none;
  }
    where
      by_pair : (o : Option (Wire × Wire)) → IfNone o ((w u : ℕ) → among those w ≡ true → among those u ≡ true → w ≡ u) →
          IsSome (pair_numbers o) ⊎ ((x y : ℕ) → IsOpenOf k ts ls x → IsOpenOf k ts ls y → x ≡ y)
      by_pair None one = inr (λ x y p q. one x y (open_lines.all x p) (open_lines.all y q))
      by_pair (Some p) one = inl refl

-- ---- each two different known wires are kept apart

pub kept_pair : {k : Kept} {known : KnownWires} → IsKnown k known → (w u : ℕ) → HasWire known.steps w → HasWire known.steps u → w ≢ u → keeps_pair k w u ≡ true
kept_pair {k} {known} is w u at on differ = by (dec_lt at.place on.place) (dec_lt on.place at.place)
  where
    later : (v x : ℕ) (p : HasWire known.steps v) (q : HasWire known.steps x) → p.place < q.place → keeps_pair k v x ≡ true
    later v x p q less = subst (λ y. keeps_pair k v y ≡ true) q.at.wire ((is.steps q.place q.at.step q.at.here).apart v (record { place = p.place; early = less; at = p.at }))

    by : Dec (at.place < on.place) → Dec (on.place < at.place) → keeps_pair k w u ≡ true
    by (yes less) other = later w u at on less
    by (no more) (yes less) = pair_turned k w u ∙ later u w on at less
    by (no more) (no less) =
        let same : at.place ≡ on.place = omega (arith, more, less) in
        absurd (differ (at_one (subst (λ i. IsAt known.steps i w) same at.at) on.at))

pub wire_known : {k : Kept} {known : KnownWires} {t : Findings} {w : ℕ} → IsHeld k known t → IsWireOf t w → HasWire known.steps w
wire_known {w = w} held (of_tap on) = held.known_taps w on
wire_known {w = w} held (of_line on) = held.known_lines w on
wire_known {w = w} held (of_left on) = held.trunk.left_route.wires w on
wire_known {w = w} held (of_right on) = held.trunk.right_route.wires w on
