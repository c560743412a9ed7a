-- What trials of crosspoints and wires tell.
use Rattle.std.specs.Prelude.{◌≡◌, ◌⊎◌, ℕ, ◌<◌, true, Option, Some, None, List}
use Rattle.machine_shape.specs.{declared.Shape.Shape, Shape.Ends, Shape.ends_of, Shape.crosses_of}
use Rattle.machine_meaning.specs.Vocabulary.{Faults, IsFaultless, stuck_cross, IsClear, IsAlone}
use Rattle.machine_config.specs.Groups.{among}
use Rattle.diag_tests.specs.Routes.{Walk, IsRoute}
use Rattle.diag_evidence.specs.Kept.{Kept, HoldsUntried, keeps_cross}
use Rattle.diag_known.specs.{Known.HasWire, declared.verified_wire.Support.Support, declared.verified_wire.VerifiedWire.VerifiedWire}

-- a route by kept crosspoints
pub record IsKeptRoute (k : Kept) (r : Walk) : Type 0 where
  pub route : IsRoute k.shape r
  pub crosses : (x : ℕ) → among r.crosses x ≡ true → keeps_cross k x ≡ true

-- a crosspoint leads from the wire to a known one
pub record IsLinkTo (m : Shape) (ss : List VerifiedWire) (w : ℕ) (a : Support) : Type 0 where
  pub within : a.cross.0 < crosses_of m
  pub at : Ends (ends_of m a.cross.0) a.wire.0 w
  pub known : HasWire ss a.wire.0

-- the wire is clear, and shorted to no known one
pub record IsFit (m : Shape) (f : Faults) (ss : List VerifiedWire) (w : ℕ) : Type 0 where
  pub clear : IsClear m f w
  pub alone : IsAlone m f (HasWire ss) w

-- Where what is kept is true of the faults, the row of a wire on trial left out ..

-- .. the crosspoint is kept, unless it is stuck
pub record IsKeptUnlessStuck (told : Option Faults) (k : Kept) (x : ℕ) : Type 0 where
  pub at : (f : Faults) → told ≡ Some f → HoldsUntried k f → stuck_cross f x ≡ None → keeps_cross k x ≡ true

-- .. the crosspoint is stuck, or the wire isn't fit
pub record IsLost (told : Option Faults) (k : Kept) (ss : List VerifiedWire) (w x : ℕ) : Type 0 where
  pub at : (f : Faults) → told ≡ Some f → HoldsUntried k f → IsFit k.shape f ss w → stuck_cross f x ≡ None → ⊥

-- .. the wire isn't fit
pub record IsBad (told : Option Faults) (k : Kept) (ss : List VerifiedWire) (w : ℕ) : Type 0 where
  pub at : (f : Faults) → told ≡ Some f → HoldsUntried k f → IsFit k.shape f ss w → ⊥

-- the wire is known, unless it isn't fit
abbrev pub IsTried : Option Faults → Kept → List VerifiedWire → ℕ → Type 0
IsTried told k ss w = HasWire ss w ⊎ IsBad told k ss w

-- .. there are faults
pub record IsFaulty (told : Option Faults) (k : Kept) : Type 0 where
  pub at : (f : Faults) → told ≡ Some f → IsFaultless f → HoldsUntried k f → ⊥
