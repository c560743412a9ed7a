-- A machine as it stands, where it is told.
use Rattle.std.specs.Prelude.{◌≡◌, List, ◌++◌, Option, None, Some, IfSome, option_map}
use Rattle.machine_shape.specs.declared.Shape.{Shape}
use Rattle.machine_meaning.specs.Faults.{Faults}
use Rattle.machine_config.specs.Vocabulary.{Configuration, IsRun}
use Rattle.rig.specs.Rig.{Exchange, Session, drives_of, readings_of}

-- its shape and faults, what is set on it, and its session, if one has begun; for how many cycles there is room isn't looked at
pub record Device : Type 0 where
  pub shape : Shape
  pub faults : Faults
  pub set : Configuration
  pub session : Option Session

abbrev pub faults_told : Option Device → Option Faults
faults_told device = option_map (λ d. d.faults) device

-- its session is one of this configuration with these pairs
pub record IsInSession (g : Configuration) (cycles : List Exchange) (d : Device) : Type 0 where
  pub config : option_map (λ s. s.config) d.session ≡ Some g
  pub so_far : option_map (λ s. s.cycles) d.session ≡ Some cycles

-- the session's readings are the run of its configuration under its drives
abbrev pub HasRunSession : Device → Type 0
HasRunSession d = IfSome d.session (λ s. IsRun d.faults s.config (drives_of s.cycles) (readings_of s.cycles))

-- the session goes on by these pairs
pub record GoesOnWith (pairs : List Exchange) (old new : Device) : Type 0 where
  pub goes_on : (g : Configuration) (cycles : List Exchange) → IsInSession g cycles old → IsInSession g (cycles ++ pairs) new
  pub run : HasRunSession new

-- what is said of a device before and after, where one is told; it is told after where it was before, and only there
abbrev pub WhereTold : (Device → Device → Type 0) → Option Device → Option Device → Type 0
WhereTold R None new = new ≡ None
WhereTold R (Some d) None = ⊥
WhereTold R (Some d) (Some e) = R d e
