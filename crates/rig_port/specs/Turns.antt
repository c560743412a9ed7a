-- What it takes to make cycles over a port, and what they leave.
use Rattle.std.specs.Prelude.{◌≡◌, ℕ, true, List, length, IfSome, IsSome}
use Rattle.machine_shape.specs.Shape.{pins_of}
use Rattle.machine_meaning.specs.Circuit.{Pins}
use Rattle.machine_config.specs.Configuration.{Configuration}
use Rattle.rig_port.specs.{declared.again.Again.Again, declared.link.Link.Link, Ports.PortState, Boards.IsKeptUp, Boards.HasRoom}
use Rattle.rig_port.specs.{Requests.AreWide, Linked.IsLinked, Linked.HasTurned, Sessions.SetsAnew, Sessions.HasRows, Sessions.KeepsSession}

-- these cycles can be asked for: a session runs, what is kept goes with the machine, and lines have room
pub record CanTurn (port : PortState) (l : Link) (drives : List Pins) : Type 0 where
  pub is_open : port.is_open ≡ true
  pub linked : IsLinked port.device l.set.config l.line.items l.anew l.running l.due
  pub running : l.running ≡ true
  pub wide : AreWide l.set.config.shape drives
  pub check : IsSome port.device → port.check ≡ l.check
  pub room : HasRoom (pins_of l.set.config.shape) l

-- a row for each of these drives, as wide as the machine
pub record AreRowsFor (set : Configuration) (drives rows : List Pins) : Type 0 where
  pub wide : AreWide set.shape rows
  pub as_many : length drives ≡ length rows

-- these cycles were made: what is kept goes with the machine, and a told one's session went on by them
pub record HasMadeTurns (drives readings : List Pins) (old new : PortState) (was now : Link) : Type 0 where
  pub held : IsKeptUp new was now
  pub turned : HasTurned drives readings was.due was.set.config old.device now.due new.device

-- a session can be made again as far as it is kept
pub record CanMakeAgain (port : PortState) (l : Link) (a : Again) : Type 0 where
  pub told : IfSome port.device (λ d. d.shape ≡ l.set.config.shape)
  pub running : l.running ≡ true
  pub rows : HasRows (pins_of l.set.config.shape) a
  pub whole : SetsAnew l.set.config a.whole.items

-- what is kept of a session stays, beside rows of so many pins
pub record KeepsRows (pins : ℕ) (old new : Again) : Type 0 where
  pub rows : HasRows pins new
  pub past : KeepsSession old new
