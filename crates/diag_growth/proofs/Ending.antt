-- When growth has come to its end, what is known is closed in the field.
use Rattle.std.proofs.Common.{◌≡◌, ◌≢◌, ◌⊎◌, ℕ, ◌<◌, Bool, true, false, Some, None, Option, List, length, refl, sym, ◌∙◌, subst, inl, inr}
use Rattle.diag_growth.proofs.Vocabulary.{false≢true, has_number, Shape, Kept, HoldsUntried, keeps_cross, IsGrown}
use Rattle.diag_growth.proofs.Vocabulary.{AreTried, Grows, Field, VerifiedWire, number_within, at_within, has_later}
use Rattle.machine_shape.specs.Vocabulary.{IsTree, HasMeetings, Ends, in_order, ends_of, crosses_of, pins_of, pin_wire, IsTap, IsLine, IsPort, tap_pin, tap_port, tap_child, tap_table}
use Rattle.machine_meaning.specs.Vocabulary.{Faults, stuck_cross, IsClear, IsAlone, HasFeet, two}
use Rattle.diag_known.specs.Vocabulary.{IsFieldOf, IsClosed, ClosedIf, GrowsIn, IsInField, KnownWires, IsBefore, HasWire, AreOutside, AreLost, IsFit, IsTried}

-- a crosspoint's two ends are different wires
pub ends_apart : {m : Shape} → IsTree m → HasMeetings m → (x : ℕ) → x < crosses_of m → (ends_of m x).0 ≢ (ends_of m x).1
ends_apart {m} tree meetings x within same = no_line _ _ (meetings.tap x within) (meetings.line x within)
  where
    no_line : (n k : ℕ) → IsTap m n (ends_of m x).0 → IsLine m k (ends_of m x).1 → ⊥
    no_line n k (tap_pin j z h e) l = tree.no_pin_is_line j k h (subst (IsLine m k) (sym same ∙ e) l)
    no_line n k (tap_port p) l = tree.no_line_is_port k n (ends_of m x).1 l (subst (λ w. IsPort m n w) same p)
    no_line n k (tap_child c e p) l = tree.no_line_is_port k c (ends_of m x).1 l (subst (λ w. IsPort m c w) same p)
    no_line n k (tap_table t j h b lt e) l = tree.no_table_is_line t j k h lt (subst (IsLine m k) (sym same ∙ e) l)

pub before_all : {ss : List VerifiedWire} {w : ℕ} → HasWire ss w → IsBefore ss (length ss) w
before_all h = record { place = h.place; early = at_within h.at; at = h.at }

module _ {told : Option Faults} {k : Kept} {a : Field} {ss : List VerifiedWire} {barred now : List Bool} (is_field : IsFieldOf k.shape a) (tree : IsTree k.shape) (meetings : HasMeetings k.shape)
    (outside : AreOutside a.wires barred) (g : AreTried told k ss barred now) (grown : IsGrown told k a ss now (length ss))
    (pins : (i : ℕ) → i < pins_of k.shape → HasWire ss (pin_wire k.shape i) ⊎ (has_number now (pin_wire k.shape i) ≡ true)) where
  -- a wire of the field that is barred, and fit, is known
  barred_known : {f : Faults} (w : ℕ) → told ≡ Some f → HoldsUntried k f → has_number a.wires w ≡ true → IsFit k.shape f ss w → has_number now w ≡ true → HasWire ss w
  barred_known w told_is holds on fit bar = by_bar (g.tried w bar)
    where
      by_tried : IsTried told k ss w → HasWire ss w
      by_tried (inl has) = has
      by_tried (inr bad) = absurd (bad.at _ told_is holds fit)

      by_bar : (has_number barred w ≡ true) ⊎ IsTried told k ss w → HasWire ss w
      by_bar (inl old_bar) = absurd (false≢true (sym (outside.free w on) ∙ old_bar))
      by_bar (inr t) = by_tried t

  in_field : (x u w : ℕ) → has_number a.crosses x ≡ true → Ends (ends_of k.shape x) u w → IsInField k.shape a x u w
  in_field x u w on at = record { within = cross_within x on; has = on; at = at }
    where
      cross_within : (x : ℕ) → has_number a.crosses x ≡ true → x < crosses_of k.shape
      cross_within x on = subst (λ n. x < n) is_field.crosses (number_within a.crosses x on)

  module _ {f : Faults} (told_is : told ≡ Some f) (holds : HoldsUntried k f) where
    pin_closed : (i : ℕ) → i < pins_of k.shape → has_number a.wires (pin_wire k.shape i) ≡ true → IsClear k.shape f (pin_wire k.shape i) →
        IsAlone k.shape f (HasWire ss) (pin_wire k.shape i) → HasWire ss (pin_wire k.shape i)
    pin_closed i within on clear alone = by_pin (pins i within)
      where
        by_pin : HasWire ss (pin_wire k.shape i) ⊎ (has_number now (pin_wire k.shape i) ≡ true) → HasWire ss (pin_wire k.shape i)
        by_pin (inl has) = has
        by_pin (inr bar) = barred_known (pin_wire k.shape i) told_is holds on (record { clear = clear; alone = alone }) bar

    wire_closed : (w : ℕ) → has_number a.wires w ≡ true → IsClear k.shape f w → IsAlone k.shape f (HasWire ss) w →
        HasFeet k.shape f (λ x. has_number a.crosses x ≡ true) (HasWire ss) w → HasWire ss w
    wire_closed w on clear alone (two x y u v hx hy ex ey differ hu hv free other) =
        by_second (grown.seconds w x y u v (in_field x u w hx ex) (in_field y v w hy ey) differ (before_all hu) (before_all hv))
      where
        by_second : HasWire ss w ⊎ ((has_number now w ≡ true) ⊎ AreLost told k ss w x y) → HasWire ss w
        by_second (inl has) = has
        by_second (inr (inl bar)) = barred_known w told_is holds on (record { clear = clear; alone = alone }) bar
        by_second (inr (inr lost)) = absurd (lost.at f told_is holds (record { clear = clear; alone = alone }) free other)

    cross_closed : (x : ℕ) → has_number a.crosses x ≡ true → HasWire ss (ends_of k.shape x).0 → HasWire ss (ends_of k.shape x).1 → stuck_cross f x ≡ None → keeps_cross k x ≡ true
    cross_closed x on one other free =
        (grown.between x (ends_of k.shape x).0 (ends_of k.shape x).1 (in_field x (ends_of k.shape x).0 (ends_of k.shape x).1 on (in_order refl refl))
        (ends_apart tree meetings x (subst (λ n. x < n) is_field.crosses (number_within a.crosses x on))) (before_all one) (before_all other)).at f told_is holds free

    closed_at : IsClosed k f a (HasWire ss)
    closed_at = record { pins = pin_closed; wires = wire_closed; crosses = cross_closed }

  pub closed : ClosedIf told k a ss
  closed = record { at = λ f told_is holds. closed_at told_is holds }

-- what is new is of the field
pub grows_in : {k : Kept} {a : Field} {old known : KnownWires} {barred now : List Bool} → AreOutside a.wires barred → length barred ≡ length a.wires → Grows k old known barred now → GrowsIn a old.steps known.steps
grows_in {k} {a} {old} {known} {barred} {now} outside len g = record {
  stays = λ w has. subst (λ ss. HasWire ss w) (sym g.steps) (has_later g.more has);
  within = λ w has. by_bar w (g.within w has);
}
  where
    by_bar : (w : ℕ) → HasWire old.steps w ⊎ ((has_number barred w ≡ false) × (w < length barred)) → HasWire old.steps w ⊎ (has_number a.wires w ≡ true)
    by_bar w (inl h) = inl h
    by_bar w (inr off) = inr (outside.field w (subst (λ n. w < n) len off.1) off.0)
