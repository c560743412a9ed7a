-- What a board over a port means, by what it keeps.
use Rattle.std.specs.Prelude.{◌≡◌, ℕ, ◌+◌, ◌≤◌, true, false, List, vec_len, Option, None, Some, IfSome, IsSome, is_some}
use Rattle.std.specs.{Vec.vec_capacity, Option.option_map_or}
use Rattle.machine_shape.specs.{declared.Shape.Shape, Shape.pins_of}
use Rattle.rig.specs.Flaky.{both_counts}
use Rattle.rig_port.specs.{declared.link.Link.Link, declared.check.Check.Check, Lines.line_of, Lines.turn_room, declared.again.Again.Again}
use Rattle.rig_port.specs.{Checks.after, Ports.PortState, Said.Said, Sessions.CanResume}
use Rattle.rig_port.specs.{Linked.PortBoardState, Linked.IsLinked, Linked.told_with, Linked.waiting, Stands.AllStandUp, Stands.StandsTold}

-- its count of failures is the port's and its own together
abbrev pub state_of : PortState → Option Shape → Option Link → List Said → ℕ → ℕ → PortBoardState
state_of port found link past number failures = record {
  found = found;
  is_up = is_some link;
  in_session = option_map_or (λ l. l.running) link false;
  is_due = option_map_or (λ l. l.due) link false;
  device = option_map_or (λ l. told_with l.due l.set.config port.device) link port.device;
  waits = option_map_or (λ l. waiting l.due l.set.config) link None;
  talk = option_map_or (λ l. l.talk) link past;
  port_talk = port.talk;
  number = number;
  port_failures = port.failures;
  failures = both_counts failures port.failures;
}

-- the line of a body, and the check behind it
pub record IsRequest (c : Check) (body line : List ℕ) (now : Check) : Type 0 where
  pub line_is : line ≡ line_of c body
  pub check : now ≡ after c body

-- a line that is due has room for all that a request takes, and what is expected for all that a reply takes
pub record HasRoom (pins : ℕ) (l : Link) : Type 0 where
  pub line : l.running ≡ true → vec_len l.line + turn_room pins ≤ vec_capacity l.line
  pub expected : turn_room pins ≤ vec_capacity l.expected

-- while it is up, the port is open, a told machine has the shape that was found, and what is kept goes with it where nothing was lost
pub record IsHeld (port : PortState) (found : Option Shape) (l : Link) : Type 0 where
  pub is_open : port.is_open ≡ true
  pub shape : found ≡ Some l.set.config.shape
  pub told : IfSome port.device (λ d. d.shape ≡ l.set.config.shape)
  pub linked : l.lost ≡ false → IsLinked port.device l.set.config l.line.items l.anew l.running l.due
  pub running : l.lost ≡ true → l.running ≡ false
  pub check : IsSome port.device → port.check ≡ l.check
  pub room : HasRoom (pins_of l.set.config.shape) l

abbrev pub IsUp : PortState → Option Shape → Option Link → Again → Type 0
IsUp port found link again = IfSome link (λ l. IsHeld port found l × CanResume port.device l again × AllStandUp l again × StandsTold port l.talk)

-- after turns the configuration is as it was, and what is kept goes with the machine
pub record IsKeptUp (port : PortState) (old new : Link) : Type 0 where
  pub is_open : port.is_open ≡ true
  pub set : new.set.config ≡ old.set.config
  pub lost : new.lost ≡ old.lost
  pub running : new.running ≡ true
  pub check : IsSome port.device → port.check ≡ new.check
  pub linked : IsLinked port.device new.set.config new.line.items new.anew new.running new.due
  pub room : HasRoom (pins_of new.set.config.shape) new
