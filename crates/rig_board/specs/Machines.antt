-- The machines that a board may be, by what it was answered, told or not.
use Rattle.std.specs.Prelude.{◌≡◌, List, ◌++◌, Option}
use Rattle.std.specs.{List.AllByRecursion, Option.ForSome}
use Rattle.machine_meaning.specs.Circuit.{Pins}
use Rattle.rig.specs.Rig.{Exchange, Past, Session, IsRunOf, drives_of, readings_of, standing}
use Rattle.rig_board.specs.Device.{Device, IsInSession, GoesOnWith}

-- each that it may be now is one that it may have been
abbrev pub Narrows : (was now : Device → Type 0) → Type 0
Narrows was now = (d : Device) → now d → (o : Device) × was o × (o.faults ≡ d.faults)

-- and this is said of the two
abbrev pub EachWas : (Device → Device → Type 0) → (was now : Device → Type 0) → Type 0
EachWas R was now = (d : Device) → now d → (o : Device) × was o × (o.faults ≡ d.faults) × R o d

-- these cycles came behind its session
pub record GoesOnBy (drives readings : List Pins) (o d : Device) : Type 0 where
  pub pairs : List Exchange
  pub driven : drives_of pairs ≡ drives
  pub read : readings_of pairs ≡ readings
  pub went : GoesOnWith pairs o d

-- each that it may be read all that was read since it was found, and stands in the session, if there is one
pub record AreLogged (may_be : Device → Type 0) (past : List Past) (session : Option Session) : Type 0 where
  pub ran : (d : Device) → may_be d → ∥ AllByRecursion (IsRunOf d.faults) (past ++ standing session) ∥₁
  pub stands : (d : Device) → may_be d → ForSome session (λ s. IsInSession s.config s.cycles d)
