-- A board: a machine that is found by name, set up and driven.
use Rattle.std.specs.Prelude.{◌≡◌, ℕ, Bool, true, List, [], All, length, Option, Some, IfSome, option_map}
use Rattle.machine_shape.specs.{declared.Shape.Shape, Shape.pins_of}
use Rattle.machine_meaning.specs.Vocabulary.{Pins, AreFaultsOf}
use Rattle.machine_config.specs.Configuration.{Configuration}
use Rattle.rig.specs.{Rig.Exchange, Rig.drives_of, Rig.readings_of, declared.rig.RigFail.RigFail}
use Rattle.rig.specs.declared.rig.RigFail.TheVariants as work
use Rattle.base_io.specs.Counts.{Rose}
use Rattle.rig_board.specs.Device.{Device, IsInSession, GoesOnWith, WhereTold}

-- what a board means
pub record BoardState : Type 0 where
  -- the shape that was found
  pub found : Option Shape
  -- whether a configuration was set up, and the board may be driven
  pub in_session : Bool
  -- the machine that it is, where told
  pub device : Option Device
  -- a count that never falls
  pub failures : ℕ

-- the number of pins of the shape that was found
abbrev pub width_found : BoardState → Option ℕ
width_found b = option_map pins_of b.found

-- a board of this shape was found; a told device has this shape, and faults of it
pub record Finds (m : Shape) (b : BoardState) : Type 0 where
  pub found : b.found ≡ Some m
  pub told : IfSome b.device (λ d. (d.shape ≡ m) × AreFaultsOf m d.faults)

-- this configuration was set up, and the board wasn't driven since
pub record SetsUp (g : Configuration) (b : BoardState) : Type 0 where
  pub ready : b.in_session ≡ true
  pub told : IfSome b.device (IsInSession g [])

-- the board was driven, and these are the drives and what its pins read
pub record HasCycled (pairs : List Exchange) (old new : BoardState) : Type 0 where
  pub ready : new.in_session ≡ true
  pub told : WhereTold (GoesOnWith pairs) old.device new.device

-- the same, with the drives and what the pins read as two lists
pub record HasCycledAll (drives readings : List Pins) (old new : BoardState) : Type 0 where
  pub pairs : List Exchange
  pub driven : drives_of pairs ≡ drives
  pub read : readings_of pairs ≡ readings
  pub cycled : HasCycled pairs old new

-- each of these rows has a bit for each pin of the shape that was found
abbrev pub AreRowsOf : BoardState → List Pins → Type 0
AreRowsOf b rows = All (λ row. width_found b ≡ Some (length row)) rows

-- what a refusal of a cycle says
abbrev pub HasFailed : RigFail → BoardState → BoardState → Type 0
HasFailed work.Failed old new = Rose old.failures new.failures
HasFailed work.Memory old new = ⊥
