-- What a board over a port keeps beside the machine at the other end.
use Rattle.std.specs.Prelude.{◌≡◌, ℕ, Bool, true, false, List, [], ◌++◌, Option, None, Some, IfSome, IsSome, All, option_map}
use Rattle.machine_shape.specs.declared.Shape.{Shape}
use Rattle.machine_meaning.specs.Circuit.{Pins}
use Rattle.machine_config.specs.Configuration.{Configuration}
use Rattle.rig.specs.Rig.{Exchange, drives_of, readings_of}
use Rattle.rig_board.specs.{Boards.BoardState, Device.Device, Device.HasRunSession, Device.GoesOnWith, Device.WhereTold}
use Rattle.rig_port.specs.{Requests.Edit, Requests.edited, Requests.IsEditOf, Requests.edits_text, Requests.start_text, Answers.start_of}
use Rattle.rig_port.specs.Said.{Said, Sent}

-- what it means
pub record PortBoardState : Type 0 where
  pub found : Option Shape
  -- whether no failure came since a machine was found
  pub is_up : Bool
  pub in_session : Bool
  -- whether a load waits to be sent
  pub is_due : Bool
  pub device : Option Device
  -- the load that waits to be sent
  pub waits : Option Configuration
  -- what it took for answers since the last `find` began, and all that its port was asked, and what answered
  pub talk : List Said
  pub port_talk : List Sent
  -- the number under which the machine was asked last what it is
  pub number : ℕ
  -- those of its port alone, and all
  pub port_failures : ℕ
  pub failures : ℕ

abbrev pub board_of : PortBoardState → BoardState
board_of s = record { found = s.found; in_session = s.in_session; device = s.device; failures = s.failures }

-- the machine as it is told: while a load is due, its session is that load's configuration, with no pairs
abbrev pub told_with : Bool → Configuration → Option Device → Option Device
told_with true g device = option_map (λ (d : Device). record d { session = Some (record { config = g; cycles = []; spare = 0 }) }) device
told_with false g device = device

-- the load that waits, where one is due
abbrev pub waiting : Bool → Configuration → Option Configuration
waiting true g = Some g
waiting false g = None

-- these edits are appended to a line, and made
pub record AreEdited (g : Configuration) (line : List ℕ) (h : Configuration) (more : List ℕ) : Type 0 where
  pub edits : List Edit
  pub right : All (IsEditOf g.shape) edits
  pub line_is : more ≡ line ++ edits_text edits
  pub set_is : h ≡ edited g edits

-- what the machine has set, with the edits of the line that wasn't sent, is the board's own configuration
pub record IsPosted (device : Option Device) (set : Configuration) (line : List ℕ) (anew : Bool) : Type 0 where
  pub edits : List Edit
  pub right : All (IsEditOf set.shape) edits
  pub line_is : line ≡ start_text anew ++ edits_text edits
  pub told : IfSome device (λ d. (d.shape ≡ set.shape) × (set ≡ edited (start_of anew d) edits))

-- the same; and while a session runs of which the machine knows, nothing waits to be sent
pub record IsLinked (device : Option Device) (set : Configuration) (line : List ℕ) (anew running due : Bool) : Type 0 where
  pub posted : IsPosted device set line anew
  pub loaded : running ≡ true → due ≡ false → (line ≡ []) × IfSome device (λ d. (set ≡ d.set) × IsSome d.session × HasRunSession d)

-- these pairs came behind the others of a told session; what was driven was loaded first where it was due
pub record HasTurned (drives readings : List Pins) (due : Bool) (set : Configuration) (old : Option Device)
    (due_now : Bool) (new : Option Device) : Type 0 where
  pub pairs : List Exchange
  pub driven : drives_of pairs ≡ drives
  pub read : readings_of pairs ≡ readings
  pub turned : WhereTold (GoesOnWith pairs) (told_with due set old) (told_with due_now set new)
