-- What a board means that changes at a load.
use Rattle.std.specs.Prelude.{◌≡◌, ℕ, Bool, true, Option, Some, None}
use Rattle.machine_shape.specs.declared.Shape.{Shape}
use Rattle.machine_config.specs.Configuration.{Configuration}
use Rattle.rig.specs.Rig.{RigState, config_of}
use Rattle.rig_board.specs.Boards.{BoardState}

-- the shape that was found, whether a configuration was set up, and its count of failures
pub record Late : Type 0 where
  pub found : Option Shape
  pub is_set : Bool
  pub failures : ℕ

-- it tells no machine
abbrev pub late_state : Late → BoardState
late_state b = record { found = b.found; in_session = b.is_set; device = None; failures = b.failures }

-- its rig has a session, with a configuration of the shape that was found
pub record HasSession (found : Option Shape) (rig : RigState) : Type 0 where
  pub loaded : Configuration
  pub config : config_of rig ≡ Some loaded
  pub shape : found ≡ Some loaded.shape

-- so it is where a configuration was set up
abbrev pub IsDrivable : Option Shape → Bool → RigState → Type 0
IsDrivable found is_set rig = is_set ≡ true → HasSession found rig
