-- What a simulated machine is to its callers.
use Rattle.std.specs.Prelude.{◌≡◌, ℕ, ◌+◌, ◌≤◌, Bool, Option, Some, IsSome, IfSome, option_map, All, List, [], ◌∷◌, ◌++◌, length, refl}
use Rattle.std.specs.Coded.{Coded, code_by, coded×, coded_ℕ, coded_bool, coded_list, coded_option}
use Rattle.machine_shape.specs.Shape.{pins_of}
use Rattle.machine_meaning.specs.Vocabulary.{Pins, Faults}
use Rattle.machine_config.specs.Vocabulary.{IsRun, Configuration, coded_configuration}
use Rattle.machine_faults.specs.Adding.{Faulty, coded_faulty}
use Rattle.rig.specs.Rig.{Exchange, Session, drives_of, readings_of}

-- its shape and faults, and its session, if one has begun
pub record SimState : Type 0 where
  pub machine : Faulty
  pub session : Option Session

-- codes, by which a proof tells these values apart
abbrev pub coded_exchange : Coded Exchange
coded_exchange = code_by (List Bool × List Bool) (coded× (coded_list coded_bool) (coded_list coded_bool)) (λ e. (e.drive, e.reading))
    (λ p. record { drive = p.0; reading = p.1 }) (λ _. refl)

abbrev pub coded_session : Coded Session
coded_session = code_by (Configuration × (List Exchange × ℕ)) (coded× coded_configuration (coded× (coded_list coded_exchange) coded_ℕ))
    (λ s. (s.config, (s.cycles, s.spare))) (λ p. record { config = p.0; cycles = p.1.0; spare = p.1.1 }) (λ _. refl)

abbrev pub coded_sim : Coded SimState
coded_sim = code_by (Faulty × Option Session) (coded× coded_faulty (coded_option coded_session)) (λ s. (s.machine, s.session))
    (λ p. record { machine = p.0; session = p.1 }) (λ _. refl)

-- the session goes on by a cycle, takes at most one place of its room, and its readings are the run
pub record GoesOnFrom (f : Faults) (drive read : Pins) (old new : Session) : Type 0 where
  pub config : new.config ≡ old.config
  pub cycles : new.cycles ≡ old.cycles ++ record { drive = drive; reading = read } ∷ []
  pub spare : old.spare ≤ new.spare + 1
  pub run : IsRun f new.config (drives_of new.cycles) (readings_of new.cycles)

-- the same of a machine that has a session
pub record HasGoneOn (drive read : Pins) (old new : SimState) : Type 0 where
  pub session : IsSome new.session
  pub goes_on : IfSome old.session (λ s. IfSome new.session (λ t. GoesOnFrom old.machine.faults drive read s t))

-- the session has room for so many cycles more, and is else as it was
pub record HasRoomFrom (f : Faults) (more : ℕ) (old new : Session) : Type 0 where
  pub config : new.config ≡ old.config
  pub cycles : new.cycles ≡ old.cycles
  pub no_less : old.spare ≤ new.spare
  pub room : more ≤ new.spare
  pub run : IsRun f new.config (drives_of new.cycles) (readings_of new.cycles)

-- the same of a machine that has a session
pub record HasRoomFor (more : ℕ) (old new : SimState) : Type 0 where
  pub session : IsSome new.session
  pub has_room : IfSome old.session (λ s. IfSome new.session (λ t. HasRoomFrom old.machine.faults more s t))

-- the session goes on by as many cycles as were driven, takes at most as many places, and its readings are the run
pub record GoesOnByFrom (f : Faults) (drives readings : List Pins) (old new : Session) : Type 0 where
  pub more : List Exchange
  pub driven : drives_of more ≡ drives
  pub read : readings_of more ≡ readings
  pub config : new.config ≡ old.config
  pub cycles : new.cycles ≡ old.cycles ++ more
  pub spare : old.spare ≤ new.spare + length drives
  pub run : IsRun f new.config (drives_of new.cycles) (readings_of new.cycles)

-- the same of a machine that has a session
pub record HasGoneOnBy (drives readings : List Pins) (old new : SimState) : Type 0 where
  pub session : IsSome new.session
  pub goes_on : IfSome old.session (λ s. IfSome new.session (λ t. GoesOnByFrom old.machine.faults drives readings s t))

-- each of these rows has a bit for each pin of the session's machine
abbrev pub AreWide : SimState → List Pins → Type 0
AreWide m rows = All (λ row. option_map (λ s. pins_of s.config.shape) m.session ≡ Some (length row)) rows
