-- Two rigs side by side.
use Rattle.std.specs.Prelude.{◌≡◌, ◌⊎◌, ℕ, ◌+◌, ◌≤◌, List, Option, None, Some, IfSome, IsSomeAnd, length, option_map}
use Rattle.std.specs.List.{AllByRecursion}
use Rattle.machine_meaning.specs.Vocabulary.{Pins, Faults, AreFaultsOf}
use Rattle.rig.specs.Rig.{Asked, Session, Past, Refused, RigState, shape_of, config_of, width_of, cycles_of, spare_of, GoesOn, GoesOnBy}
use Rattle.rig.specs.Rig.{IsRunOf, Explains, Attaches, AttachFails, IsDetached}
use Rattle.rig.specs.declared.rig.AttachFail.{AttachFail}
use Rattle.rig.specs.declared.rig.AttachFail.TheVariants as attach
use Rattle.rig_doubled.specs.{Repeats.HaveWidth, declared.pairs.Pair.Pair}

-- two rigs side by side, and what is their own of both
pub record Twins (A B : Type 0) : Type 0 where
  pub first : A
  pub second : B
  -- the name under which the second is attached
  pub second_name : List ℕ
  pub asked : List Asked
  pub attached : Option Asked
  pub refused : Refused
  -- for how many further cycles a session of both has room, if there is one
  pub spare : Option ℕ
  -- the first as it stood when each session of both ended
  pub past : List A
  pub loads : ℕ
  pub failures : ℕ

-- the session with this room, if there is one of both
abbrev pub session_with : Option ℕ → Option Session → Option Session
session_with None session = None
session_with (Some spare) session = option_map (λ (s : Session). record s { spare = spare }) session

-- what they mean as a rig, by what each means and the sessions that have ended: it tells the faults that the second tells, and no
-- fault texts
abbrev pub twin_state : {A B : Type 0} → RigState → RigState → List Past → Twins A B → RigState
twin_state first second past t = record {
  machine = record { asked = t.asked; attached = t.attached; faults = second.machine.faults; texts = λ _. None; refused = t.refused };
  session = session_with t.spare first.session;
  past = past;
  loads = t.loads;
  failures = t.failures;
}

-- the first was attached as this machine, and the second as one of its shape under its own name
pub record BothAttach (machine : Asked) (second_name : List ℕ) (one one_new other other_new : RigState) : Type 0 where
  pub first : Attaches machine one one_new
  pub second : Attaches (record machine { name = second_name }) other other_new

-- the first refused to be attached as this machine, and the second wasn't reached
pub record FirstRefuses (e : AttachFail) (machine : Asked) (one one_new other other_new : RigState) : Type 0 where
  pub refused : AttachFails e machine one one_new
  pub detached : IsDetached one_new
  pub unreached : other_new ≡ other

-- the first was attached as this machine, and the second refused to be so under its own name
pub record SecondRefuses (e : AttachFail) (machine : Asked) (second_name : List ℕ) (one one_new other other_new : RigState) : Type 0 where
  pub attached : Attaches machine one one_new
  pub refused : AttachFails e (record machine { name = second_name }) other other_new
  pub detached : IsDetached other_new

-- memory was lacking, and neither was reached
pub record NeitherReached (e : AttachFail) (one one_new other other_new : RigState) : Type 0 where
  pub wanting : e ≡ attach.Memory
  pub first : one_new ≡ one
  pub second : other_new ≡ other

-- whose refusal is handed on: that of the first, or else of the second
abbrev pub OneRefuses : AttachFail → Asked → List ℕ → RigState → RigState → RigState → RigState → Type 0
OneRefuses e machine second_name one one_new other other_new =
    FirstRefuses e machine one one_new other other_new ⊎ SecondRefuses e machine second_name one one_new other other_new

-- the session of this rig has this configuration and these cycles
pub record HasSession (s : Session) (rig : RigState) : Type 0 where
  pub config : config_of rig ≡ Some s.config
  pub cycles : cycles_of rig ≡ s.cycles

-- while there is a session, those of both rigs have its configuration and its cycles
abbrev pub ShareSession : RigState → RigState → RigState → Type 0
ShareSession rig first second = IfSome rig.session (λ s. HasSession s first × HasSession s second)

-- both have sessions with the same configuration and cycles, and room for as many more as the pair says, which has rows
-- as wide as their machines
pub record ArePaired (p : Pair) (first second : RigState) : Type 0 where
  pub config : config_of first ≡ config_of second
  pub cycles : cycles_of first ≡ cycles_of second
  pub width : width_of first ≡ Some (length p.read)
  pub other : length p.other ≡ length p.read
  pub rows : HaveWidth (length p.read) p.others.items
  pub room : p.spare ≤ length p.others.items
  pub first_spare : p.spare ≤ spare_of first
  pub second_spare : p.spare ≤ spare_of second

-- both go on by a cycle with one reading
pub record BothGoOn (drive : Pins) (old new : Pair) (one one_new other other_new : RigState) : Type 0 where
  pub first : GoesOn drive new.read one one_new
  pub second : GoesOn drive new.read other other_new
  pub paired : ArePaired new one_new other_new
  pub spare : old.spare ≡ new.spare + 1

-- both go on by several cycles with the same readings
pub record BothGoOnBy (drives readings : List Pins) (old new : Pair) (one one_new other other_new : RigState) : Type 0 where
  pub first : GoesOnBy drives readings one one_new
  pub second : GoesOnBy drives readings other other_new
  pub paired : ArePaired new one_new other_new
  pub spare : old.spare ≡ new.spare + length drives

-- so many places of a session's room were taken, and no more
pub record TakesRoom (count : ℕ) (had has : Option ℕ) : Type 0 where
  pub rest : ℕ
  pub taken : had ≡ Some (rest + count)
  pub left_over : has ≡ Some rest

-- for how many further cycles a session of both has room, if there is one
abbrev pub room_of : Option Pair → Option ℕ
room_of pair = option_map (λ (p : Pair). p.spare) pair

-- the session of both, over the machine that is told
abbrev pub paired : Option Pair → RigState → RigState → RigState
paired pair first second = record second { session = session_with (room_of pair) first.session }

-- these are faults of the machine that is attached
abbrev pub IsOfMachine : Faults → RigState → Type 0
IsOfMachine f rig = IsSomeAnd (shape_of rig) (λ m. AreFaultsOf m f)

-- what is attached is attached to both, a session of both is paired, and what explains the log of either explains the sessions
-- that have ended
pub record IsTwinned (machine : Option Asked) (pair : Option Pair) (first second : RigState) (past : List Past) : Type 0 where
  pub attached : IfSome machine (λ m. (shape_of first ≡ Some m.shape) × (shape_of second ≡ Some m.shape))
  pub paired : IfSome pair (λ p. ArePaired p first second)
  pub first_explains : (f : Faults) → Explains f first → AllByRecursion (IsRunOf f) past
  pub second_explains : (f : Faults) → Explains f second → AllByRecursion (IsRunOf f) past
