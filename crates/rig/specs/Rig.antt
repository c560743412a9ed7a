-- A rig: a machine that is attached by name, loaded and driven.
use Rattle.std.specs.Prelude.{◌≡◌, ℕ, ◌+◌, ◌<◌, ◌≤◌, List, [], ◌∷◌, ◌++◌, map, length, All, Option, None, Some}
use Rattle.std.specs.{Prelude.IfSome, Prelude.IsSomeAnd, Prelude.option_map, List.AllByRecursion, List.sum_by, Option.option_map_or}
use Rattle.machine_shape.specs.{declared.Shape.Shape, Bounds.most_text, Shape.pins_of}
use Rattle.machine_meaning.specs.Vocabulary.{Pins, Faults, AreFaultsOf}
use Rattle.machine_config.specs.Vocabulary.{Configuration, IsRun}
use Rattle.machine_faults.specs.{declared.kind.FaultsKind.FaultsKind, declared.kind.FaultsFault.FaultsFault, Refusals.IsFaultAt}
use Rattle.machine_faults.specs.declared.kind.FaultsFault.TheVariants as text
use Rattle.machine_faults.specs.Text.{IsFaultText}
use Rattle.rig.specs.{declared.rig.AttachFail.AttachFail, declared.rig.RigFail.RigFail, Names.SpellsFaults}
use Rattle.rig.specs.declared.rig.AttachFail.TheVariants as attach
use Rattle.rig.specs.declared.rig.RigFail.TheVariants as work
use Rattle.base_io.specs.Counts.{Rose, next_count}

-- a machine as it was asked for
pub record Asked : Type 0 where
  pub shape : Shape
  pub name : List ℕ

-- a cycle as it was driven and read
pub record Exchange : Type 0 where
  pub drive : Pins
  pub reading : Pins

-- the configuration that was loaded, and the cycles since
pub record Session : Type 0 where
  pub config : Configuration
  pub cycles : List Exchange
  -- how many further cycles there is room for
  pub spare : ℕ

-- a session as it was: what was loaded, and the cycles since
pub record Past : Type 0 where
  pub config : Configuration
  pub cycles : List Exchange

-- how often a fault text was refused, and the line and kind of the last
pub record Refused : Type 0 where
  pub times : ℕ
  pub last : Option (ℕ × FaultsKind)

-- what `attach` alone changes
pub record Machine : Type 0 where
  pub asked : List Asked
  pub attached : Option Asked
  -- its faults, where they are told
  pub faults : Option Faults
  -- the fault text of a name, where it is told
  pub texts : List ℕ → Option (List ℕ)
  pub refused : Refused

-- what a rig means
pub record RigState : Type 0 where
  pub machine : Machine
  pub session : Option Session
  -- the sessions of the attached machine that have ended, in order
  pub past : List Past
  -- the loads since the rig was made, up to the last value of u64
  pub loads : ℕ
  -- a count that never falls
  pub failures : ℕ

abbrev pub drives_of : List Exchange → List Pins
drives_of cycles = map (λ c. c.drive) cycles

abbrev pub readings_of : List Exchange → List Pins
readings_of cycles = map (λ c. c.reading) cycles

-- the shape of the machine that is attached
abbrev pub shape_of : RigState → Option Shape
shape_of rig = option_map (λ m. m.shape) rig.machine.attached

-- the configuration of the session, if there is one
abbrev pub config_of : RigState → Option Configuration
config_of rig = option_map (λ s. s.config) rig.session

-- the number of pins of the session's machine
abbrev pub width_of : RigState → Option ℕ
width_of rig = option_map (λ g. pins_of g.shape) (config_of rig)

-- the cycles of the session; none where there is no session
abbrev pub cycles_of : RigState → List Exchange
cycles_of rig = option_map_or (λ s. s.cycles) rig.session []

-- how many further cycles there is room for
abbrev pub spare_of : RigState → ℕ
spare_of rig = option_map_or (λ s. s.spare) rig.session 0

-- the session that stands, if there is one
abbrev pub standing : Option Session → List Past
standing session = option_map_or (λ s. record { config = s.config; cycles = s.cycles } ∷ []) session []

-- the log: every session of the attached machine
abbrev pub log_of : RigState → List Past
log_of rig = rig.past ++ standing rig.session

-- the number of cycles: those of all sessions in the log
unfoldable pub cycles_made : RigState → ℕ
cycles_made rig = sum_by (λ (s : Past). length s.cycles) (log_of rig)

-- what was read in a session is the run of its configuration under these faults
abbrev pub IsRunOf : Faults → Past → Type 0
IsRunOf f s = IsRun f s.config (drives_of s.cycles) (readings_of s.cycles)

-- these faults of the attached machine explain all that was read of it
pub record Explains (f : Faults) (rig : RigState) : Type 0 where
  pub faults : IsSomeAnd (shape_of rig) (λ m. AreFaultsOf m f)
  pub runs : AllByRecursion (IsRunOf f) (log_of rig)

-- what explains the later log explains the earlier
abbrev pub Narrows : RigState → RigState → Type 0
Narrows old new = (f : Faults) → Explains f new → Explains f old

-- for each set of faults that explains what was read so far, what is said of told faults is said of it
abbrev pub ForEach : RigState → (Option Faults → Type 0) → Type 0
ForEach rig P = (f : Faults) → Explains f rig → P (Some f)

-- the faults, where they are told, explain what was read
abbrev pub ToldExplain : RigState → Type 0
ToldExplain rig = IfSome rig.machine.faults (λ f. Explains f rig)

-- told faults explain the later log if they explained the earlier
abbrev pub Tells : RigState → RigState → Type 0
Tells old new = ToldExplain old → ToldExplain new

-- the session's readings are the run of its configuration under its drives, where the faults are told
abbrev pub IsTold : RigState → Type 0
IsTold rig = IfSome rig.machine.faults (λ f. IfSome (config_of rig)
    (λ g. IsRun f g (drives_of (cycles_of rig)) (readings_of (cycles_of rig))))

-- the faults, where they are told, are faults of a machine of this shape
abbrev pub HasFaultsOf : Shape → RigState → Type 0
HasFaultsOf m rig = IfSome rig.machine.faults (AreFaultsOf m)

-- nothing is attached, and there is no session
pub record IsDetached (rig : RigState) : Type 0 where
  pub attached : rig.machine.attached ≡ None
  pub session : rig.session ≡ None
  pub past : rig.past ≡ []

-- the machine was added to those asked, and is attached
pub record Attaches (machine : Asked) (old new : RigState) : Type 0 where
  pub asked : new.machine.asked ≡ old.machine.asked ++ machine ∷ []
  pub attached : new.machine.attached ≡ Some machine
  pub faults : IfSome new.machine.faults (AreFaultsOf machine.shape)
  -- told faults are those of the name
  pub named : SpellsFaults (old.machine.texts machine.name) machine.name machine.shape new.machine.faults
  pub session : new.session ≡ None
  pub past : new.past ≡ []
  pub refused : new.machine.refused ≡ old.machine.refused

-- these bytes are no fault text of this machine within its limit, and this is their first fault
pub record IsNoText (m : Shape) (bytes : List ℕ) (line : ℕ) (kind : FaultsKind) : Type 0 where
  pub first : IsFaultAt m bytes line kind
  pub too_long : (f : Faults) → IsFaultText m bytes f → most_text m < length bytes

-- a fault text is refused once more, the last at this line for this kind, and rightly so where it is told
abbrev pub RefusesText : FaultsFault → Shape → Option (List ℕ) → Refused → Refused → Type 0
RefusesText (text.At line kind) m told old new =
    (new ≡ record { times = next_count old.times; last = Some (line, kind) }) × IfSome told (λ bytes. IsNoText m bytes line kind)
RefusesText text.Memory m told old new = ⊥

-- what a refusal of `attach` says
abbrev pub AttachFails : AttachFail → Asked → RigState → RigState → Type 0
AttachFails attach.Failed machine old new =
    Rose old.failures new.failures × (new.machine.asked ≡ old.machine.asked ++ machine ∷ []) × (new.machine.refused ≡ old.machine.refused)
AttachFails (attach.Faults fault) machine old new =
    (new.machine.asked ≡ old.machine.asked ++ machine ∷ [])
    × RefusesText fault machine.shape (old.machine.texts machine.name) old.machine.refused new.machine.refused
AttachFails attach.Memory machine old new = (new.machine.asked ≡ old.machine.asked) × (new.machine.refused ≡ old.machine.refused)

-- a session with this configuration begins
pub record Begins (g : Configuration) (room : ℕ) (rig : RigState) : Type 0 where
  pub config : config_of rig ≡ Some g
  pub cycles : cycles_of rig ≡ []
  pub spare : room ≤ spare_of rig

-- what a refusal of `load` says
abbrev pub LoadFails : RigFail → RigState → RigState → Type 0
LoadFails work.Failed old new = Rose old.failures new.failures
LoadFails work.Memory old new = Unit {0}

-- the session goes on by one cycle
pub record GoesOn (drive reading : Pins) (old new : RigState) : Type 0 where
  pub config : config_of new ≡ config_of old
  pub cycles : cycles_of new ≡ cycles_of old ++ record { drive = drive; reading = reading } ∷ []
  pub spare : spare_of old ≤ spare_of new + 1
  pub past : new.past ≡ old.past
  pub told : IsTold new

-- the session goes on by as many cycles as were driven, one after the other
pub record GoesOnBy (drives readings : List Pins) (old new : RigState) : Type 0 where
  pub more : List Exchange
  pub driven : drives_of more ≡ drives
  pub read : readings_of more ≡ readings
  pub config : config_of new ≡ config_of old
  pub cycles : cycles_of new ≡ cycles_of old ++ more
  pub spare : spare_of old ≤ spare_of new + length drives
  pub past : new.past ≡ old.past
  pub told : IsTold new

-- what a refusal of `cycle` says
abbrev pub CycleFails : RigFail → RigState → RigState → Type 0
CycleFails work.Failed old new = Rose old.failures new.failures × (new.session ≡ None) × (new.past ≡ log_of old)
CycleFails work.Memory old new = (spare_of old ≡ 0) × (new.session ≡ old.session) × (new.past ≡ old.past)

-- what a refusal of `cycles` says, where so many were asked for
abbrev pub CyclesFail : RigFail → ℕ → RigState → RigState → Type 0
CyclesFail work.Failed count old new = Rose old.failures new.failures × (new.session ≡ None) × (new.past ≡ log_of old)
CyclesFail work.Memory count old new = (spare_of old < count) × (new.session ≡ old.session) × (new.past ≡ old.past)

-- each of these rows has a bit for each pin of the session's machine
abbrev pub AreRows : RigState → List Pins → Type 0
AreRows rig rows = All (λ row. width_of rig ≡ Some (length row)) rows

-- rows that are as many and as long as they were
abbrev pub KeepLengths : List Pins → List Pins → Type 0
KeepLengths old new = map length new ≡ map length old
