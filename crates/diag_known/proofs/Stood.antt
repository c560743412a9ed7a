-- One more wire stands.
use Rattle.std.proofs.Common.{◌≡◌, ◌≢◌, ◌⊎◌, ℕ, ◌<◌, Bool, true, false, Option, Some, None, List, [], ◌∷◌, ◌++◌, length, get_or, sym, ap, ◌∙◌, subst, inl, inr, arith, set, slice_get}
use Rattle.diag_known.proofs.Vocabulary.{false≢true, get_or_past, get_or_read, has_number, Kept, Support, VerifiedWire}
use native.Mathlib.Decide.{dec_lt}
use Rattle.machine_shape.specs.Vocabulary.{pin_wire, pins_of, wires_of}
use Rattle.diag_known.specs.Vocabulary.{KnownWires, HasWire, Stands, on_pin, on_feet, InSet, foot_at, IsFootTo, IsGround, IsSettled, Founds}
use Rattle.diag_known.specs.declared.verified_wire.SupportedBy.TheVariants as stand
use Rattle.diag_known.proofs.Grounding.{ground_then, ground_foot, founds_foot, settled_foot, founds_one, taken_now, foot_is}

has_within : (left : List Bool) (w : ℕ) → has_number left w ≡ true → w < length left
has_within left w is = by (dec_lt w (length left))
  where
    by : Dec (w < length left) → w < length left
    by (yes h) = h
    by (no h) = absurd (false≢true (sym (get_or_past left w false (omega (arith, h))) ∙ is))

module _ {k : Kept} {n m : KnownWires} {left rest : List Bool} {feet : List (Option Support)} (g : IsGround k n left feet) (s : VerifiedWire) (was : InSet left s.wire.0) (stands : Stands k n.steps (length n.steps) s.wire.0 s.stand)
    (shape : m.shape ≡ n.shape) (steps : m.steps ≡ n.steps ++ s ∷ []) (taken : rest ≡ set left s.wire.0 false) where
  within : s.wire.0 < length left
  within = has_within left s.wire.0 was

  pub stood_ground : IsGround k m rest feet
  stood_ground = subst (λ l. IsGround k m l feet) (sym taken) (ground_then g s was within stands shape steps)

  pub stood_founds : Founds n m left rest feet feet
  stood_founds = subst (λ l. Founds n m left l feet feet) (sym taken) (founds_one g s was within stands shape steps)

  pub stood_out : has_number rest s.wire.0 ≡ false
  stood_out = ap (λ l. has_number l s.wire.0) taken ∙ taken_now g s was within stands shape steps

-- a pin stands by itself, and another wire on a foot that was found and a second one to another wire
pub pin_stands_so : {k : Kept} (n : KnownWires) {w pin : ℕ} → pin < pins_of k.shape → w ≡ pin_wire k.shape pin → Stands k n.steps (length n.steps) w (stand.Pin pin)
pin_stands_so n below e = on_pin below e

pub feet_stand : {k : Kept} (n : KnownWires) {w : ℕ} {a b : Support} → IsFootTo k n.steps w a → IsFootTo k n.steps w b → a.wire.0 ≢ b.wire.0 → Stands k n.steps (length n.steps) w (stand.Feet a b)
feet_stand n f g differ = on_feet (foot_is n f) (foot_is n g) differ

-- the foot that was found of a wire, as it is read
pub foot_read : (feet : List (Option Support)) (w : ℕ) (o : Option Support) → w < length feet → o ≡ get_or feet w o → foot_at feet w ≡ o
foot_read feet w o within is = sym (get_or_read feet w o within is None)

-- a wire that isn't settled, and what was read of its feet
module _ {k : Kept} {n : KnownWires} {left : List Bool} {feet : List (Option Support)} (g : IsGround k n left feet) {w : ℕ} (low : w < wires_of k.shape) {o : Option Support} (read : o ≡ get_or feet w o) where
  room : w < length feet
  room = let r = g.room in omega (arith, low, r)

  -- a first foot of it was found
  module _ (none : o ≡ None) {a : Support} (foot : IsFootTo k n.steps w a) {more : List (Option Support)} (put : more ≡ set feet w (Some a)) where
    pub first_ground : IsGround k n left more
    first_ground = ground_foot g w a room (foot_read feet w o room read ∙ none) foot put

    pub first_founds : Founds n n left left feet more
    first_founds = founds_foot g w a room (foot_read feet w o room read ∙ none) foot put

    pub first_settled : IsSettled left more w a.wire.0
    first_settled = settled_foot g w a room (foot_read feet w o room read ∙ none) foot put

  -- or a second one, that leads to another wire
  pub second_stands : {a b : Support} → o ≡ Some a → IsFootTo k n.steps w b → a.wire.0 ≢ b.wire.0 → Stands k n.steps (length n.steps) w (stand.Feet a b)
  second_stands {a} is foot differ = feet_stand n (g.found w a (foot_read feet w o room read ∙ is)) foot differ

-- nothing stood, so what stands is of those that were left
pub no_wire : (n : KnownWires) → n.steps ≡ [] → (w : ℕ) → ¬ HasWire n.steps w
no_wire n none w has = let no_step : None ≡ Some has.at.step = subst (λ ss. slice_get ss has.place ≡ Some has.at.step) none has.at.here in cc

pub all_from : {n m : KnownWires} {left rest : List Bool} {feet more : List (Option Support)} → ((w : ℕ) → ¬ HasWire n.steps w) → Founds n m left rest feet more → (w : ℕ) → HasWire m.steps w → InSet left w
all_from {n} {left = left} none f w has = by (f.from w has)
  where
    by : HasWire n.steps w ⊎ InSet left w → InSet left w
    by (inl was) = absurd (none w was)
    by (inr is) = is
