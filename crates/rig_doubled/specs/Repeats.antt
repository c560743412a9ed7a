-- A rig that asks its machine again.
use Rattle.std.specs.Prelude.{◌≡◌, ◌⊎◌, ℕ, ◌-◌, ◌^◌, ◌≤◌, ◌<◌, min, Bool, true, ◌&&◌, ◌==◌, if◌then◌else◌, List, [], ◌∷◌, length, take, All}
use Rattle.std.specs.Prelude.{flat_map}
use Rattle.std.specs.Prelude.{Option, None, Some, IfSome, is_some, nat_le}
use Rattle.machine_shape.specs.{declared.Cross.Cross, Shape.pins_of}
use Rattle.machine_meaning.specs.Vocabulary.{Pins, Faults}
use Rattle.machine_config.specs.Vocabulary.{Configuration, IsRun, set_of}
use Rattle.std.specs.List.{AllByRecursion}
use Rattle.rig.specs.Rig.{RigState, Past, shape_of, config_of, cycles_of, drives_of, readings_of}
use Rattle.rig.specs.Rig.{standing, IsRunOf, Explains, IsTold}
use Rattle.rig.specs.Flaky.{both_counts}
use Rattle.rig_doubled.specs.declared.kept.Kept.{Kept}

-- the configuration with these crosspoints closed and no others
abbrev pub with_crosses : Configuration → List Cross → Configuration
with_crosses g closed = record g { closed = set_of closed }

-- rows with a bit for each of so many pins
abbrev pub HaveWidth : ℕ → List Pins → Type 0
HaveWidth pins rows = All (λ row. length row ≡ pins) rows

-- what was driven and read in the cycles that are kept
abbrev pub kept_drives : Kept → List Pins
kept_drives k = take k.made k.drives.items

abbrev pub kept_reads : Kept → List Pins
kept_reads k = take k.made k.readings.items

-- its rows are as wide as its machine, and there are as many of each kind
pub record IsRoomy (k : Kept) : Type 0 where
  pub drive_pins : HaveWidth (pins_of k.config.config.shape) k.drives.items
  pub read_pins : HaveWidth (pins_of k.config.config.shape) k.readings.items
  pub again_pins : HaveWidth (pins_of k.config.config.shape) k.again.items
  pub readings : length k.readings.items ≡ length k.drives.items
  pub again : length k.again.items ≡ length k.drives.items
  pub made : k.made ≤ length k.drives.items
  pub few : length k.drives.items < 2 ^ 32

-- of a session with these drives and readings the first are kept, as many as there is room for
pub record IsKept (k : Kept) (drives readings : List Pins) : Type 0 where
  pub roomy : IsRoomy k
  pub as_many : length readings ≡ length drives
  pub made : k.made ≡ min (length drives) (length k.drives.items)
  pub driven : kept_drives k ≡ take k.made drives
  pub read : kept_reads k ≡ take k.made readings

-- where the faults are told, what is kept is their run
abbrev pub IsRunUnder : Option Faults → Kept → Type 0
IsRunUnder told k = IfSome told (λ f. IsRun f k.config.config (kept_drives k) (kept_reads k))

-- of a new session with this configuration something is kept, unless it is asked once
abbrev pub KeepsFor : ℕ → Configuration → Option Kept → Type 0
KeepsFor times g None = times ≡ 1
KeepsFor times g (Some k) = (k.config.config ≡ g) × IsKept k [] []

-- how often a session is asked under a name: as the digit says where it begins with one from 2 to 9 and an x, and else once
abbrev pub times_named : List ℕ → ℕ
times_named [] = 1
times_named (digit ∷ []) = 1
times_named (digit ∷ mark ∷ rest) = if (nat_le 50 digit && nat_le digit 57) && (mark == 120) then digit - 48 else 1

-- the sessions of these rigs, by what each means
abbrev pub ended_in : {I : Type 0} → (I → RigState) → List I → List Past
ended_in state rigs = flat_map (λ r. standing (state r).session) rigs

-- a rig that asks again: its inner rig, how often it asks, whether the inner rig's session is its own, its inner rig as it
-- stood when each of its sessions ended, and its own counts
pub record Repeated (I : Type 0) : Type 0 where
  pub inner : I
  pub times : ℕ
  pub stands : Bool
  pub past : List I
  pub loads : ℕ
  pub failures : ℕ

-- what it means as a rig, by what its inner rig means and the sessions that have ended
abbrev pub repeat_state : {I : Type 0} → RigState → List Past → Repeated I → RigState
repeat_state inner past r = record inner {
  session = if r.stands then inner.session else None;
  past = past;
  loads = r.loads;
  failures = both_counts r.failures inner.failures;
}

-- how many loads of the inner rig a load takes: with a session as many as it is asked, and else one
abbrev pub loads_taken : RigState → ℕ → ℕ
loads_taken rig times = if is_some rig.session then times else 1

-- what is kept is the inner rig's session, and where its faults are told, their run
pub record IsOfSession (k : Kept) (inner : RigState) : Type 0 where
  pub attached : shape_of inner ≡ Some k.config.config.shape
  pub config : config_of inner ≡ Some k.config.config
  pub kept : IsKept k (drives_of (cycles_of inner)) (readings_of (cycles_of inner))
  pub told : IsTold inner

-- what was kept and is no longer was kept of a session that has ended; what is kept is of the session
pub record StillKeeps (old new : Option Kept) (inner : RigState) : Type 0 where
  pub held : IfSome new (λ k. IsOfSession k inner)
  pub dropped : new ≡ None → (old ≡ None) ⊎ (inner.session ≡ None)

-- a session that is to be asked again is kept, and what explains the inner rig's log explains the sessions that have ended
pub record IsRepeating (times : ℕ) (kept : Option Kept) (stands : Bool) (inner : RigState) (past : List Past) : Type 0 where
  pub some : 1 ≤ times
  pub held : IfSome kept (λ k. (stands ≡ true) × IsOfSession k inner)
  pub once : kept ≡ None → (times ≡ 1) ⊎ ((if stands then inner.session else None) ≡ None)
  pub explains : (f : Faults) → Explains f inner → AllByRecursion (IsRunOf f) past
