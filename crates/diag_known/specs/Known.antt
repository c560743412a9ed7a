-- Wires that came to be known, one after the other: each is a pin of the machine, or stands on two crosspoints to wires that
-- came before it.
use Rattle.std.specs.Prelude.{◌≡◌, ◌≢◌, ℕ, ◌<◌, Bool, true, Some, List, length, slice_get}
use Rattle.base_bits.specs.Numbers.{has_number}
use Rattle.machine_shape.specs.declared.Shape.{Shape}
use Rattle.machine_shape.specs.Shape.{Ends, ends_of, pin_wire, pins_of, crosses_of, wires_of}
use Rattle.diag_evidence.specs.Kept.{Kept, is_apart, keeps_cross, keeps_wire, keeps_pair}
use Rattle.diag_known.specs.declared.verified_wire.{Support.Support, SupportedBy.SupportedBy, VerifiedWire.VerifiedWire}
use Rattle.diag_known.specs.declared.verified_wire.SupportedBy.TheVariants as stand

-- wires of a machine, in the order in which they came
pub record KnownWires : Type 0 where
  pub shape : Shape
  pub steps : List VerifiedWire

-- this wire came at this place
pub record IsAt (ss : List VerifiedWire) (i w : ℕ) : Type 0 where
  pub step : VerifiedWire
  pub here : slice_get ss i ≡ Some step
  pub wire : step.wire.0 ≡ w

-- it came before this place, and it came at all
pub record IsBefore (ss : List VerifiedWire) (n w : ℕ) : Type 0 where
  pub place : ℕ
  pub early : place < n
  pub at : IsAt ss place w

pub record HasWire (ss : List VerifiedWire) (w : ℕ) : Type 0 where
  pub place : ℕ
  pub at : IsAt ss place w

-- a kept crosspoint leads from the wire to one that came before this place
pub record IsFoot (k : Kept) (ss : List VerifiedWire) (i w : ℕ) (a : Support) : Type 0 where
  pub within : a.cross.0 < crosses_of k.shape
  pub kept : keeps_cross k a.cross.0 ≡ true
  pub at : Ends (ends_of k.shape a.cross.0) a.wire.0 w
  pub before : IsBefore ss i a.wire.0

-- the wire is a pin of the machine, or stands on two feet to different wires
pub data Stands (k : Kept) (ss : List VerifiedWire) (i w : ℕ) : SupportedBy → Type 0 where
  on_pin : {n : ℕ} → n < pins_of k.shape → w ≡ pin_wire k.shape n → Stands k ss i w (stand.Pin n)
  on_feet : {a b : Support} → IsFoot k ss i w a → IsFoot k ss i w b → a.wire.0 ≢ b.wire.0 → Stands k ss i w (stand.Feet a b)

-- the wire at this place is kept, and kept apart from each that came before it
pub record IsKnownStep (k : Kept) (ss : List VerifiedWire) (i : ℕ) (s : VerifiedWire) : Type 0 where
  pub kept : keeps_wire k s.wire.0 ≡ true
  pub apart : (u : ℕ) → IsBefore ss i u → keeps_pair k u s.wire.0 ≡ true
  pub stands : Stands k ss i s.wire.0 s.stand

-- these wires are known by a proof, and of its set
pub record IsKnown (k : Kept) (known : KnownWires) : Type 0 where
  pub shape : known.shape ≡ k.shape
  pub of_set : (w : ℕ) → HasWire known.steps w → is_apart k w ≡ true
  pub steps : (i : ℕ) (s : VerifiedWire) → slice_get known.steps i ≡ Some s → IsKnownStep k known.steps i s

-- all wires of the set are known
abbrev pub KnowsAll : Kept → List VerifiedWire → Type 0
KnowsAll k ss = (w : ℕ) → is_apart k w ≡ true → HasWire ss w

-- the wire is kept and of the set, and so kept apart from each known one
pub record IsGood (k : Kept) (ss : List VerifiedWire) (w : ℕ) : Type 0 where
  pub kept : keeps_wire k w ≡ true
  pub of_set : is_apart k w ≡ true
  pub apart : (u : ℕ) → HasWire ss u → keeps_pair k u w ≡ true

-- the wires at two places, where both are known
abbrev pub AreTwo : List VerifiedWire → ℕ → ℕ → Type 0
AreTwo ss i j = (i < length ss) × (j < length ss) × (i ≢ j)

-- the kept crosspoints of the machine
abbrev pub IsKeptCrossOf : Kept → ℕ → Type 0
IsKeptCrossOf k x = (x < crosses_of k.shape) × (keeps_cross k x ≡ true)

-- the wires of a set
abbrev pub InSet : List Bool → ℕ → Type 0
InSet wires w = has_number wires w ≡ true

-- they are kept and of the set, and so each two of them kept apart
pub record AreApart (k : Kept) (wires : List Bool) : Type 0 where
  pub len : length wires ≡ wires_of k.shape
  pub kept : (w : ℕ) → InSet wires w → keeps_wire k w ≡ true
  pub of_set : (w : ℕ) → InSet wires w → is_apart k w ≡ true
  pub pairs : (w u : ℕ) → InSet wires w → InSet wires u → u ≢ w → keeps_pair k u w ≡ true
