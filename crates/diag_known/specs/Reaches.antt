-- What is reached beside a route from the machine's pins: trees, in which each wire that is no pin hangs on a foot.
use Rattle.std.specs.Prelude.{◌≡◌, ◌<◌, ℕ, true, false, Some, List, [], ◌∷◌, slice_get, slice_index_or}
use Rattle.machine_shape.specs.{declared.Wire.Wire, Shape.Ends, Shape.ends_of, Shape.crosses_of}
use Rattle.machine_config.specs.Groups.{among}
use Rattle.diag_tests.specs.Routes.{Walk, IsRoute}
use Rattle.diag_evidence.specs.Kept.{Kept, keeps_cross}
use Rattle.diag_known.specs.{Known.IsAt, Known.HasWire, Known.IsBefore, declared.verified_wire.VerifiedWire.VerifiedWire}
use Rattle.diag_known.specs.declared.{beside.Reach.Reach, verified_wire.Support.Support, verified_wire.SupportedBy.SupportedBy}
use Rattle.diag_known.specs.declared.beside.Reach.TheVariants as reach
use Rattle.diag_known.specs.declared.descents.Down.{Down}
use Rattle.diag_known.specs.declared.verified_wire.SupportedBy.TheVariants as stand

-- how a wire stands to the route
abbrev pub reach_at : List Reach → ℕ → Reach
reach_at rs w = slice_index_or rs w reach.Unreached

-- the wire is reached from this pin
pub record IsFrom (rs : List Reach) (pin w : ℕ) : Type 0 where
  pub at : reach_at rs w ≡ reach.From pin

-- .. from some pin
pub record IsReached (rs : List Reach) (w : ℕ) : Type 0 where
  pub pin : ℕ
  pub from : IsFrom rs pin w

-- the stand is this pin, or has a foot to a wire that is reached from it
pub data HangsOn (rs : List Reach) (pin : ℕ) : SupportedBy → Type 0 where
  own : HangsOn rs pin (stand.Pin pin)
  by_first : {a b : Support} → IsFrom rs pin a.wire.0 → HangsOn rs pin (stand.Feet a b)
  by_second : {a b : Support} → IsFrom rs pin b.wire.0 → HangsOn rs pin (stand.Feet a b)

-- each wire that is reached is known, and is the pin or hangs on a foot
pub record AreTrees (ss : List VerifiedWire) (rs : List Reach) : Type 0 where
  pub known : (w pin : ℕ) → IsFrom rs pin w → HasWire ss w
  pub hangs : (i : ℕ) (s : VerifiedWire) (pin : ℕ) → slice_get ss i ≡ Some s → IsFrom rs pin s.wire.0 → HangsOn rs pin s.stand

-- a kept crosspoint leads from the wire to one that is reached from the same pin
pub record IsTie (k : Kept) (rs : List Reach) (pin w : ℕ) (foot : Support) : Type 0 where
  pub within : foot.cross.0 < crosses_of k.shape
  pub kept : keeps_cross k foot.cross.0 ≡ true
  pub at : Ends (ends_of k.shape foot.cross.0) foot.wire.0 w
  pub here : IsFrom rs pin w
  pub below : IsFrom rs pin foot.wire.0

-- the wire at this place hangs on this foot
pub record HangsAt (k : Kept) (ss : List VerifiedWire) (rs : List Reach) (pin i : ℕ) (foot : Support) : Type 0 where
  pub step : VerifiedWire
  pub here : slice_get ss i ≡ Some step
  pub tie : IsTie k rs pin step.wire.0 foot
  pub before : IsBefore ss i foot.wire.0

-- the wire at this place is reached from this pin
pub record IsFromAt (ss : List VerifiedWire) (rs : List Reach) (pin i : ℕ) : Type 0 where
  pub step : VerifiedWire
  pub here : slice_get ss i ≡ Some step
  pub from : IsFrom rs pin step.wire.0

-- of the wires at two places the left one hangs on the foot, or the right one
pub record HangsAlong (k : Kept) (ss : List VerifiedWire) (rs : List Reach) (pin i j : ℕ) (d : Down) : Type 0 where
  pub left : d.left ≡ true → HangsAt k ss rs pin i d.foot
  pub right : d.left ≡ false → HangsAt k ss rs pin j d.foot

-- over these feet one after the other the wire u hangs on the wire w
abbrev pub Hangs : Kept → List Reach → ℕ → ℕ → List Support → ℕ → Type 0
Hangs k rs pin u [] w = (u ≡ w)
Hangs k rs pin u (a ∷ feet) w = IsTie k rs pin u a × Hangs k rs pin a.wire.0 feet w

-- the wire at the end of these feet, from the wire u on
abbrev pub upper_of : ℕ → List Support → ℕ
upper_of u [] = u
upper_of u (a ∷ feet) = upper_of a.wire.0 feet

-- a route by kept crosspoints over wires that are reached from its pin
pub record IsTreeWalk (k : Kept) (rs : List Reach) (r : Walk) : Type 0 where
  pub route : IsRoute k.shape r
  pub crosses : (x : ℕ) → among r.crosses x ≡ true → keeps_cross k x ≡ true
  pub wires : (w : ℕ) → among r.wires w ≡ true → IsFrom rs r.pin w

-- the second goes on from the first
pub record GoesOn (k : Kept) (rs : List Reach) (old new : Walk) : Type 0 where
  pub walk : IsTreeWalk k rs new
  pub pin : new.pin ≡ old.pin
  pub stays : (w : ℕ) → among old.wires w ≡ true → among new.wires w ≡ true

-- .. to a wire on which this one hangs over these feet
pub record GoesBelow (k : Kept) (rs : List Reach) (old new : Walk) (u : ℕ) (feet : List Support) : Type 0 where
  pub on : GoesOn k rs old new
  pub hangs : Hangs k rs old.pin u feet new.end

-- .. and over this wire
pub record GoesTo (k : Kept) (rs : List Reach) (old new : Walk) (w : ℕ) : Type 0 where
  pub on : GoesOn k rs old new
  pub over : among new.wires w ≡ true

-- .. down from two places to two others
pub record AreBefore (ss : List VerifiedWire) (i j : ℕ) (d : Down) : Type 0 where
  pub left : d.left ≡ true → IsBefore ss i d.foot.wire.0
  pub right : d.left ≡ false → IsBefore ss j d.foot.wire.0

pub record Leads (ss : List VerifiedWire) (d : Down) (i j u v : ℕ) : Type 0 where
  pub left : d.left ≡ true → IsAt ss u d.foot.wire.0 × (v ≡ j)
  pub right : d.left ≡ false → IsAt ss v d.foot.wire.0 × (u ≡ i)

-- from this pin a wire is reached
pub record HasTree (rs : List Reach) (pin : ℕ) : Type 0 where
  pub wire : ℕ
  pub from : IsFrom rs pin wire

-- all are routes over wires that are reached from their pins
abbrev pub AreTreeWalks : Kept → List Reach → List Walk → Type 0
AreTreeWalks k rs routes = (j : ℕ) (r : Walk) → slice_get routes j ≡ Some r → IsTreeWalk k rs r

-- one of these routes goes over the wire
pub record IsOnWalk (routes : List Walk) (w : ℕ) : Type 0 where
  pub place : ℕ
  pub route : Walk
  pub here : slice_get routes place ≡ Some route
  pub on : among route.wires w ≡ true

-- the wires over which one of the routes goes are such still
abbrev pub StayOn : List Walk → List Walk → Type 0
StayOn old new = (w : ℕ) → IsOnWalk old w → IsOnWalk new w

-- routes over wires that are reached, among them each of these that is
pub record AreWalks (k : Kept) (rs : List Reach) (wanted : List Wire) (routes : List Walk) : Type 0 where
  pub each : (j : ℕ) (r : Walk) → slice_get routes j ≡ Some r → IsTreeWalk k rs r
  pub over : (j : ℕ) (w : Wire) → slice_get wanted j ≡ Some w → IsReached rs w.0 → IsOnWalk routes w.0
