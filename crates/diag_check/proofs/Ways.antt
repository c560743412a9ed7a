-- What stands by an image's surroundings is known, and its tables are seated.
use Rattle.std.proofs.Common.{◌≡◌, ◌⊎◌, ℕ, ◌<◌, true, List, refl, sym, subst, inl, inr, IsSome}
use Rattle.diag_check.proofs.Vocabulary.{Shape, crosses_of, pin_wire, ends_of, itself, Ends, in_order, turned, is_closed, setting_of, Kept}
use Rattle.diag_check.proofs.Vocabulary.{keeps_cross, IsClosed, HasWire, IsKeptCrossOf, Field, VerifiedWire, known_or, AreRoutesKnown}
use Rattle.diag_check.proofs.Vocabulary.{AreSurroundings, IsSoundNear, StandsNear, StandsBySurroundings}
use Rattle.machine_meaning.specs.Vocabulary.{Faults, IsSoundWire, IsSeated, IsAlone, pin_stands, on_two, two}
use Rattle.machine_meaning.proofs.Clear.{clear_of_sound}
use Rattle.machine_meaning.proofs.Seats.{seated_also}
use Rattle.machine_image.specs.Vocabulary.{ImageValue, IsImage, at_tap, at_line, by_cross, IsSurroundingCross, used_wire}
use Rattle.diag_check.proofs.Wholly.{IsClosedOver, closed_over}

module _ (i : ImageValue) (right : IsImage i) (f : Faults) (stands : StandsBySurroundings f i) (a : Field) (around : AreSurroundings i a)
    (k : Kept) (shape : k.shape ≡ i.config.shape) (ss : List VerifiedWire) (grown : IsClosed k f a (HasWire ss)) where
  abbrev m : Shape
  m = i.config.shape

  abbrev known : ℕ → Type 0
  known = HasWire ss

  over : IsClosedOver m k f a known
  over = closed_over m k f a known shape grown

  alone : (w : ℕ) → IsSoundWire m f w → (known w → ⊥) → IsAlone m f known w
  alone w sound never u h s = never (subst known (sound.alone u s) h)

  near_known : {w : ℕ} → StandsNear f i w → known w
  near_known (pin_stands j b is) = by (known_or ss (pin_wire m j))
    where
      by : known (pin_wire m j) ⊎ (known (pin_wire m j) → ⊥) → known (pin_wire m j)
      by (inl h) = h
      by (inr never) = over.pins j b (around.wires (pin_wire m j) is.1) (clear_of_sound is.0) (alone (pin_wire m j) is.0 never)
  near_known (on_two w x y p q is cx cy ex ey ne sp sq) = by (known_or ss w) (near_known sp) (near_known sq)
    where
      by : known w ⊎ (known w → ⊥) → known p → known q → known w
      by (inl h) kp kq = h
      by (inr never) kp kq = over.wires w (around.wires w is.1) (clear_of_sound is.0) (alone w is.0 never)
          (two x y p q (around.crosses x cx.0) (around.crosses y cy.0) ex ey ne kp kq cx.1.not_stuck cy.1.not_stuck)

  -- a sound crosspoint of the surroundings between known wires is kept
  cross_kept : (x p q : ℕ) → IsSoundNear f i x → Ends (ends_of m x) p q → known p → known q → IsKeptCrossOf k x
  cross_kept x p q is ends kp kq = (subst (λ (s : Shape). x < crosses_of s) (sym shape) is.0.within, by ends)
    where
      by : Ends (ends_of m x) p q → keeps_cross k x ≡ true
      by (in_order s t) = over.crosses x (around.crosses x is.0) (subst known (sym s) kp) (subst known (sym t) kq) is.1.not_stuck
      by (turned s t) = over.crosses x (around.crosses x is.0) (subst known (sym s) kq) (subst known (sym t) kp) is.1.not_stuck

  closed_near : (x : ℕ) → is_closed i.config x ≡ true → IsSurroundingCross i x
  closed_near x c = record {
    within = right.config.crosses x c;
    node = by_cross x c itself;
    tap = used_wire (at_tap x c refl);
    line = used_wire (at_line x c refl);
  }

  pub routes_near : AreRoutesKnown k ss i
  routes_near = record {
    wires = λ w uses. near_known (stands.wires w uses);
    crosses = λ x c. over.crosses x (around.crosses x (closed_near x c)) (near_known (stands.wires _ (at_tap x c refl))) (near_known (stands.wires _ (at_line x c refl))) (stands.parts.crosses x c).not_stuck;
  }

  pub seats_near : (t : ℕ) → IsSome (setting_of i.config t) → IsSeated k.shape known (IsKeptCrossOf k) t
  seats_near t on = subst (λ (s : Shape). IsSeated s known (IsKeptCrossOf k) t) (sym shape)
      (seated_also m (StandsNear f i) known (IsSoundNear f i) (IsKeptCrossOf k) (λ w is. near_known is) cross_kept t (stands.tables t on))
