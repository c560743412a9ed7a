-- When a wire of an image on free parts is 0: where closed crosspoints alone join it to what pulls.
use Rattle.std.proofs.Common.{◌≡◌, ℕ, ◌<◌, Bool, true, false, Some, None, Option, List, ◌++◌, length, get_or, refl, sym, ap, ◌∙◌, subst, arith, IsSome}
use Rattle.place_repair.proofs.Vocabulary.{false≢true, get_or_append_left, length-append, Setting, IsGood, IsOff, joined_too}
use Rattle.machine_shape.specs.Vocabulary.{pin_wire, table_wire, pins_of, tables_of, crosses_of, IsNumbered}
use Rattle.machine_meaning.specs.Vocabulary.{Faults, Joined, plain_net, Outputs, Pulls, by_pin, by_table, IsHeld, IsValue, held_0, held_1, pulled, released, Defects, IsFreeCross, Covers}
use Rattle.machine_meaning.proofs.Covered.{none_stuck, joined_plainly}
use Rattle.machine_config.specs.Vocabulary.{Configuration, is_closed, setting_of, circuit_of}
use Rattle.machine_image.specs.Vocabulary.{ImageValue, IsImage, drive_of, IsFreeImage}
use Rattle.machine_image.proofs.Driven.{drive_low}

module _ (d : Defects) (i : ImageValue) (numbered : IsNumbered i.config.shape) (is : IsImage i) (free : IsFreeImage d i) (on_within : (t : ℕ) → IsSome (setting_of i.config t) → t < tables_of i.config.shape) where
  abbrev g : Configuration
  g = i.config

  free_cross : (x : ℕ) → is_closed g x ≡ true → (x < crosses_of g.shape) × IsFreeCross g.shape d x
  free_cross x on = (is.config.crosses x on, free.crosses x on)

  pub good_pin_at : (k : ℕ) → k < length (i.inputs ++ i.outputs) → IsGood g.shape d (pin_wire g.shape (get_or (i.inputs ++ i.outputs) k 0))
  good_pin_at k h = record { within = numbered.pins _ (is.within k 0 h); free = free.pins k 0 h }

  pub good_in : (k : ℕ) → k < length i.inputs → IsGood g.shape d (pin_wire g.shape (get_or i.inputs k 0))
  good_in k h =
      let l : k < length (i.inputs ++ i.outputs) = rw length-append (omega arith) in
      subst (λ p. IsGood g.shape d (pin_wire g.shape p)) (get_or_append_left i.inputs i.outputs 0 k h) (good_pin_at k l)

  pub good_pin : (t k : ℕ) → IsSome (setting_of g t) → k < 7 → IsGood g.shape d (table_wire g.shape t k)
  good_pin t k on h = record { within = numbered.tables t k (on_within t on) h; free = (free.tables t on).pins k h }

  module _ (vector : List Bool) (o : Outputs) (off : IsOff g o) (f : Faults) (covers : Covers g.shape d f) where
    -- what pulls: an input that is driven 0, or a table that is on
    pub table_on : (t : ℕ) → o t ≡ false → IsSome (setting_of g t)
    table_on t e = by (setting_of g t) refl
      where
        by : (s : Option Setting) → setting_of g t ≡ s → IsSome s
        by None q = absurd (false≢true (sym e ∙ off t q))
        by (Some s) q = refl

    puller_good : {w : ℕ} → Pulls (circuit_of f g) (drive_of i vector) o w → IsGood g.shape d w
    puller_good (by_pin k inside e at) = let r = drive_low (pins_of g.shape) i.inputs vector k e in subst (IsGood g.shape d) (ap (pin_wire g.shape) r.2 ∙ at) (good_in r.0 r.1)
    puller_good (by_table t e at) = subst (IsGood g.shape d) at (good_pin t 6 (table_on t e) (omega arith))

    not_held : {w : ℕ} {b : Bool} → IsGood g.shape d w → IsHeld (circuit_of f g) w b → ⊥
    not_held good h = cc (none_stuck g.shape d f (is_closed g) covers numbered.ends free_cross good.within good.free h.joined, h.stuck)

    pub low_pulled : {w : ℕ} → IsGood g.shape d w → IsValue (circuit_of f g) (drive_of i vector) o w false → (v : ℕ) × Joined (plain_net g.shape (is_closed g)) w v × Pulls (circuit_of f g) (drive_of i vector) o v
    low_pulled good (held_0 h) = absurd (not_held good h)
    low_pulled good (pulled _ _ h) = let other = puller_good h.pulls in (h.place, joined_plainly g.shape d f (is_closed g) covers numbered.ends free_cross good.within other.within good.free other.free h.joined, h.pulls)

    pub pulled_low : {w v : ℕ} {b : Bool} → IsGood g.shape d w → Joined (plain_net g.shape (is_closed g)) w v → Pulls (circuit_of f g) (drive_of i vector) o v → IsValue (circuit_of f g) (drive_of i vector) o w b → b ≡ false
    pulled_low good j p (held_0 h) = refl
    pulled_low good j p (held_1 _ h) = absurd (not_held good h)
    pulled_low good j p (pulled _ _ h) = refl
    pulled_low {v = v} good j p (released _ _ never) = absurd (never (record { place = v; joined = joined_too g.shape (is_closed g) d f covers free_cross j; pulls = p }))
