-- What is kept of a machine goes with each that may stand behind what was said.
use Rattle.std.specs.Prelude.{◌≡◌, false, List, [], Option, None, Some, IfSome}
use Rattle.machine_shape.specs.declared.Shape.{Shape}
use Rattle.machine_meaning.specs.{Circuit.Pins, Faults.Faults}
use Rattle.machine_config.specs.Configuration.{Configuration, cleared}
use Rattle.rig.specs.Rig.{Exchange}
use Rattle.rig_board.specs.Device.{Device}
use Rattle.rig_port.specs.{declared.again.Again.Again, declared.check.Check.Check, declared.link.Link.Link, Said.Said, Transcripts.MayStand}
use Rattle.rig_port.specs.{Linked.PortBoardState, Linked.IsLinked, Linked.HasTurned, Ports.PortState, Sessions.CanResume, Sessions.HasMade}

-- what is kept goes with this machine, and so does its check
pub record GoesWith (l : Link) (e : Device) (k : Check) : Type 0 where
  pub linked : IsLinked (Some e) l.set.config l.line.items l.anew l.running l.due
  pub check : k ≡ l.check

-- while it is up, with this machine where nothing was lost
pub record StandsUp (l : Link) (a : Again) (e : Device) (k : Check) : Type 0 where
  pub linked : l.lost ≡ false → IsLinked (Some e) l.set.config l.line.items l.anew l.running l.due
  pub check : k ≡ l.check
  pub resumes : CanResume (Some e) l a

abbrev pub AllStandUp : Link → Again → Type 0
AllStandUp l a = (f : Faults) (e : Device) (k : Check) → MayStand l.set.config.shape f l.talk e k → StandsUp l a e k

-- some device of the machine that is told may stand behind what was said
abbrev pub HasStood : PortState → List Said → Type 0
HasStood p talk = IfSome p.device (λ t. (d : Device) × (c : Check) × MayStand t.shape t.faults talk d c)

-- the one that is told does
abbrev pub StandsTold : PortState → List Said → Type 0
StandsTold p talk = IfSome p.device (λ t. MayStand t.shape t.faults talk t p.check)

-- a machine of this shape says what it is, with nothing set, and its check is the one that is kept
pub record IsFound (m : Shape) (now : Link) (e : Device) (k : Check) : Type 0 where
  pub shape : e.shape ≡ m
  pub set : e.set ≡ cleared m
  pub check : k ≡ now.check

abbrev pub Finds : Shape → Link → Device → Check → Device → Check → Type 0
Finds m now d c e k = d.shape ≡ m → IsFound m now e k

-- a machine with which what was kept goes makes these cycles, and what is kept goes with it then
pub record IsTurned (drives readings : List Pins) (was now : Link) (d e : Device) (k : Check) : Type 0 where
  pub goes : GoesWith now e k
  pub turned : HasTurned drives readings was.due was.set.config (Some d) now.due (Some e)

abbrev pub Turns : List Pins → List Pins → Link → Link → Device → Check → Device → Check → Type 0
Turns drives readings was now d c e k = GoesWith was d c → IsTurned drives readings was now d e k

-- a machine of its shape makes a session of this configuration with these pairs
pub record IsMade (g : Configuration) (pairs : List Exchange) (now : Link) (e : Device) (k : Check) : Type 0 where
  pub goes : GoesWith now e k
  pub made : HasMade g pairs now.due (Some e)

abbrev pub Makes : Configuration → List Exchange → Link → Device → Check → Device → Check → Type 0
Makes g pairs now d c e k = d.shape ≡ g.shape → IsMade g pairs now e k

-- a machine makes these cycles behind its session, at once or when all was made again
abbrev pub TurnsAgain : List Pins → List Pins → Again → Link → Link → Device → Check → Device → Check → Type 0
TurnsAgain drives readings a was now d c e k = GoesWith was d c → CanResume (Some d) was a → IsTurned drives readings was now d e k

-- and can be asked again
abbrev pub GoesOn : List Pins → List Pins → Again → Again → Link → Link → Device → Check → Device → Check → Type 0
GoesOn drives readings a b was now d c e k =
    GoesWith was d c → CanResume (Some d) was a → IsTurned drives readings was now d e k × CanResume (Some e) now b

-- a machine as it is told while this load waits to be sent
abbrev pub as_told : Option Configuration → Device → Device
as_told None d = d
as_told (Some g) d = record d { session = Some (record { config = g; cycles = []; spare = 0 }) }

-- by what it took for answers the board may be this machine
pub record MayBe (s : PortBoardState) (d : Device) : Type 0 where
  pub shape : Shape
  pub found : s.found ≡ Some shape
  pub last : Device
  pub check : Check
  pub stands : MayStand shape last.faults s.talk last check
  pub told : d ≡ as_told s.waits last
