-- Where a table can be tested over known wires, as it is searched.
use Rattle.std.specs.Prelude.{◌≡◌, ◌≢◌, ◌⊎◌, ℕ, ◌<◌, Bool, Some, List, length, slice_get}
use Rattle.machine_shape.specs.{declared.Shape.Shape, Shape.ends_of, Shape.table_wire, Shape.hextant_of, Shape.IsLine, Shape.IsPort}
use Rattle.machine_meaning.specs.Standing.{IsOutside, Meets, StandsWithout}
use Rattle.diag_evidence.specs.Kept.{Kept}
use Rattle.diag_known.specs.Known.{KnownWires, IsAt, HasWire, IsKeptCrossOf, InSet, IsKnown}
use Rattle.diag_growth.specs.declared.{seats.Place.Place, seat.Arm.Arm}
use Rattle.diag_known.specs.declared.verified_wire.VerifiedWire.{VerifiedWire}

-- the crosspoint of the tap and the line is kept
pub record IsMeeting (k : Kept) (tap line x : ℕ) : Type 0 where
  pub kept : IsKeptCrossOf k x
  pub ends : ends_of k.shape x ≡ (tap, line)

-- a known line that meets both taps
pub record JoinsTaps (k : Kept) (ss : List VerifiedWire) (a b line : ℕ) : Type 0 where
  pub known : HasWire ss line
  pub one : Meets k.shape (IsKeptCrossOf k) a line
  pub other : Meets k.shape (IsKeptCrossOf k) b line

-- .. another one than this of the hextant
pub record IsFreeArm (k : Kept) (ss : List VerifiedWire) (h near input beside line : ℕ) : Type 0 where
  pub is_line : IsLine k.shape h line
  pub differs : line ≢ beside
  pub joins : JoinsTaps k ss near input line

-- an arm over such a line
pub record IsArmTo (k : Kept) (ss : List VerifiedWire) (h near input beside : ℕ) (a : Arm) : Type 0 where
  pub free : IsFreeArm k ss h near input beside a.line.0
  pub to_line : IsMeeting k near a.line.0 a.to_line.0
  pub to_input : IsMeeting k input a.line.0 a.to_input.0

-- arms to the first n inputs of the table
pub record AreArmsTo (k : Kept) (ss : List VerifiedWire) (t near beside n : ℕ) (arms : List Arm) : Type 0 where
  pub count : length arms ≡ n
  pub each : (j : ℕ) (a : Arm) → slice_get arms j ≡ Some a → IsArmTo k ss (hextant_of k.shape t) near (table_wire k.shape t j) beside a

-- to one of its inputs there is none
pub record MissesArm (k : Kept) (ss : List VerifiedWire) (t near beside : ℕ) : Type 0 where
  pub input : ℕ
  pub within : input < 6
  pub none : (line : ℕ) → ¬ IsFreeArm k ss (hextant_of k.shape t) near (table_wire k.shape t input) beside line

-- another port of the hextant that stands without it and meets the line
pub record IsFarPort (k : Kept) (without : List VerifiedWire) (h near line far : ℕ) : Type 0 where
  pub port : IsPort k.shape h far
  pub differs : far ≢ near
  pub stands : HasWire without far
  pub meets : Meets k.shape (IsKeptCrossOf k) far line

-- Over this near port and this line the table can be tested.
pub record IsPlaceAt (k : Kept) (ss without : List VerifiedWire) (t near line : ℕ) : Type 0 where
  pub known : HasWire ss line
  pub output : Meets k.shape (IsKeptCrossOf k) (table_wire k.shape t 6) line
  pub far : ℕ
  pub is_far : IsFarPort k without (hextant_of k.shape t) near line far
  pub inputs : (j : ℕ) → j < 6 → (l : ℕ) × IsFreeArm k ss (hextant_of k.shape t) near (table_wire k.shape t j) line l

-- .. there
pub record IsPlace (k : Kept) (ss without : List VerifiedWire) (t near line : ℕ) (p : Place) : Type 0 where
  pub near_is : p.near.0 ≡ near
  pub line_is : p.line.0 ≡ line
  pub known : HasWire ss line
  pub far : IsFarPort k without (hextant_of k.shape t) near line p.far.0
  pub to_line : IsMeeting k p.far.0 line p.to_line.0
  pub output : IsMeeting k (table_wire k.shape t 6) line p.output.0
  pub arms : AreArmsTo k ss t near line 6 p.arms.items

-- .. over some line of the hextant
pub record IsPlaceNear (k : Kept) (ss without : List VerifiedWire) (t near : ℕ) (p : Place) : Type 0 where
  pub line : ℕ
  pub is_line : IsLine k.shape (hextant_of k.shape t) line
  pub place : IsPlace k ss without t near line p

-- .. and over some near port that stands without it
pub record IsPlaceFor (k : Kept) (ss without : List VerifiedWire) (t : ℕ) (p : Place) : Type 0 where
  pub near : ℕ
  pub port : IsPort k.shape (hextant_of k.shape t) near
  pub stands : HasWire without near
  pub found : IsPlaceNear k ss without t near p

-- those that stand without the hextant are known, and outside it
pub record IsWithout (m : Shape) (ss without : List VerifiedWire) (h : ℕ) : Type 0 where
  pub known : (w : ℕ) → HasWire without w → HasWire ss w
  pub outside : (w : ℕ) → HasWire without w → IsOutside m h w

-- These are known by a proof, and are those of the known wires that stand by kept crosspoints without the hextant.
pub record AreAllWithout (k : Kept) (ss : List VerifiedWire) (h : ℕ) (without : KnownWires) : Type 0 where
  pub known : IsKnown k without
  pub within : IsWithout k.shape ss without.steps h
  pub whole : (w : ℕ) → StandsWithout k.shape (HasWire ss) (IsKeptCrossOf k) h w → HasWire without.steps w

-- The set has gained the known wire at this place, if that is outside the hextant.
pub record PutsOutside (known : KnownWires) (h place : ℕ) (old new : List Bool) : Type 0 where
  pub len : length new ≡ length old
  pub stays : (w : ℕ) → InSet old w → InSet new w
  pub only : (w : ℕ) → InSet new w → InSet old w ⊎ (IsAt known.steps place w × IsOutside known.shape h w)
  pub puts : (w : ℕ) → IsAt known.steps place w → IsOutside known.shape h w → InSet new w
