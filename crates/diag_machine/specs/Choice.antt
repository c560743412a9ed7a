-- Pins that are left out, though they stand on known lines.
use Rattle.std.specs.Prelude.{◌≡◌, ℕ, ◌<◌, true, List}
use Rattle.machine_shape.specs.Shape.{wires_of}
use Rattle.machine_meaning.specs.Vocabulary.{HasTwo, Meets}
use Rattle.diag_evidence.specs.Kept.{Kept, keeps_wire}
use Rattle.diag_known.specs.{Known.HasWire, Known.IsKeptCrossOf, declared.verified_wire.VerifiedWire.VerifiedWire}

-- the pin is joined by a kept crosspoint to a known line
pub record IsKnownFoot (k : Kept) (ss : List VerifiedWire) (pin line : ℕ) : Type 0 where
  pub known : HasWire ss line
  pub meets : Meets k.shape (IsKeptCrossOf k) pin line

-- The wire isn't known, though it is kept and joined to two known lines.
pub record IsLeftOut (k : Kept) (ss : List VerifiedWire) (w : ℕ) : Type 0 where
  pub unknown : ¬ HasWire ss w
  pub kept : keeps_wire k w ≡ true
  pub feet : HasTwo (IsKnownFoot k ss w)

-- a wire at least is left out
pub record AreLeftOut (k : Kept) (ss : List VerifiedWire) : Type 0 where
  pub wire : ℕ
  pub within : wire < wires_of k.shape
  pub out : IsLeftOut k ss wire
