-- Descents: from two known wires step by step to others that came before, each time from the later one to a foot at which
-- the other doesn't stand.
use Rattle.std.specs.Prelude.{◌≡◌, ◌≢◌, ◌⊎◌, ℕ, ◌<◌, true, false, Some, List, [], ◌∷◌, slice_get}
use Rattle.machine_shape.specs.Shape.{pin_wire, pins_of}
use Rattle.diag_evidence.specs.Kept.{Kept}
use Rattle.diag_known.specs.{Known.IsAt, Known.IsFoot, declared.verified_wire.VerifiedWire.VerifiedWire, declared.descents.Down.Down}
use Rattle.diag_known.specs.{Routes.IsPin, declared.verified_wire.Support.Support}
use Rattle.diag_known.specs.declared.verified_wire.SupportedBy.TheVariants as stand

-- The wire at the one place has this foot, at which the wire at the other place doesn't stand; and that one is a pin or
-- came before.
pub record StepsDown (k : Kept) (ss : List VerifiedWire) (i j : ℕ) (foot : Support) : Type 0 where
  pub step : VerifiedWire
  pub here : slice_get ss i ≡ Some step
  pub other : VerifiedWire
  pub there : slice_get ss j ≡ Some other
  pub below : (b : Support) × ((step.stand ≡ stand.Feet foot b) ⊎ (step.stand ≡ stand.Feet b foot))
  pub stands : IsFoot k ss i step.wire.0 foot
  pub apart : foot.wire.0 ≢ other.wire.0
  pub early : IsPin other.stand ⊎ (j < i)

-- the wire at the one place is a pin, or that at the other is none and came later
pub record Stays (ss : List VerifiedWire) (i j : ℕ) : Type 0 where
  pub step : VerifiedWire
  pub here : slice_get ss i ≡ Some step
  pub other : VerifiedWire
  pub there : slice_get ss j ≡ Some other
  pub why : IsPin step.stand ⊎ ((i < j) × (¬ IsPin other.stand))

-- at this place stands a pin
pub record IsPinHere (ss : List VerifiedWire) (i : ℕ) : Type 0 where
  pub step : VerifiedWire
  pub here : slice_get ss i ≡ Some step
  pub pin : IsPin step.stand

-- the wire that steps down, from one of two places
pub record IsOver (ss : List VerifiedWire) (i j : ℕ) (d : Down) : Type 0 where
  pub left : d.left ≡ true → IsAt ss i d.over.0
  pub right : d.left ≡ false → IsAt ss j d.over.0

-- the left wire steps down, or the right one
pub record StepsAlong (k : Kept) (ss : List VerifiedWire) (i j : ℕ) (d : Down) : Type 0 where
  pub left : d.left ≡ true → StepsDown k ss i j d.foot
  pub right : d.left ≡ false → StepsDown k ss j i d.foot
  pub over : IsOver ss i j d

-- .. from i to u, or from j to v
pub record Goes (k : Kept) (ss : List VerifiedWire) (d : Down) (i j u v : ℕ) : Type 0 where
  pub left : d.left ≡ true → StepsDown k ss i j d.foot × IsAt ss u d.foot.wire.0 × (v ≡ j)
  pub right : d.left ≡ false → StepsDown k ss j i d.foot × IsAt ss v d.foot.wire.0 × (u ≡ i)
  pub over : IsOver ss i j d

-- these steps lead from the wires at two places to those at two others
abbrev pub Descends : Kept → List VerifiedWire → ℕ → ℕ → List Down → ℕ → ℕ → Type 0
Descends k ss i j [] m n = (i ≡ m) × (j ≡ n)
Descends k ss i j (d ∷ ds) m n = (u : ℕ) × (v : ℕ) × Goes k ss d i j u v × Descends k ss u v ds m n

-- .. and it is this one of the machine
pub record IsPinAt (k : Kept) (ss : List VerifiedWire) (i pin : ℕ) : Type 0 where
  pub step : VerifiedWire
  pub here : slice_get ss i ≡ Some step
  pub stand : step.stand ≡ stand.Pin pin
  pub within : pin < pins_of k.shape
  pub wire : step.wire.0 ≡ pin_wire k.shape pin

-- these steps lead down to two pins
pub record DescendsTo (k : Kept) (ss : List VerifiedWire) (i j : ℕ) (ds : List Down) (left right : ℕ) : Type 0 where
  pub m : ℕ
  pub n : ℕ
  pub steps : Descends k ss i j ds m n
  pub differ : m ≢ n
  pub left_pin : IsPinAt k ss m left
  pub right_pin : IsPinAt k ss n right
