-- Tables, many at once: two loads of 65 cycles, in which all of them are latched.
use Rattle.std.specs.Prelude.{◌≡◌, ℕ, zero, suc, ◌<◌, ◌==◌, nat_lt, Bool, true, false, ◌&&◌, ◌||◌, not, if◌then◌else◌, Option, Some, None}
use Rattle.std.specs.Prelude.{List, [], ◌∷◌, All, length, unwrap_or, slice_index_or}
use Rattle.std.specs.{Int.bit_at, List.list_any}
use Rattle.base_bits.specs.Numbers.{has_number}
use Rattle.machine_shape.specs.{declared.Table.Table, Shape.table_wire, Shape.tables_of}
use Rattle.machine_meaning.specs.Vocabulary.{Pins, Faults, IsRightTable}
use Rattle.machine_config.specs.declared.Setting.{Setting}
use Rattle.machine_config.specs.Vocabulary.{Configuration, is_closed, setting_of, cell_of, IsRun}
use Rattle.rig.specs.Rig.{RigState, Past, drives_of, readings_of}
use Rattle.diag_evidence.specs.{Forests.Trees, Forests.HangsOn, Forests.pin_of, Forests.is_laid, Looks.read_at}
use Rattle.diag_evidence.specs.{Kept.Kept, Kept.Gain, Kept.Gains, Kept.HoldsFor, Kept.nothing, Logged.HasLogged, Readings.HasCycled}

-- one of these tables has the number
abbrev pub is_one_of : List Table → ℕ → Bool
is_one_of ts t = list_any (λ u. u.0 == t) ts

-- the pin on which a table's output hangs
abbrev pub output_pin : Trees → ℕ → ℕ
output_pin trees t = unwrap_or (pin_of trees (table_wire trees.shape t 6)) 0

-- There is a table, and all pins of each hang. Input j of each hangs on one pin, for each j. These six pins differ, and the outputs
-- of different tables hang on further pins, which differ too.
pub record AreTablesOn (trees : Trees) (ts : List Table) : Type 0 where
  pub some : 0 < length ts
  pub within : All (λ t. t.0 < tables_of trees.shape) ts
  pub hang : (t k : ℕ) → is_one_of ts t ≡ true → k < 7 → (p : ℕ) × HangsOn trees (table_wire trees.shape t k) p
  pub inputs : (t u j p q : ℕ) → is_one_of ts t ≡ true → is_one_of ts u ≡ true → j < 6 → HangsOn trees (table_wire trees.shape t j) p →
      HangsOn trees (table_wire trees.shape u j) q → p ≡ q
  pub differ : (t i j p : ℕ) → is_one_of ts t ≡ true → i < 6 → j < 6 → HangsOn trees (table_wire trees.shape t i) p →
      HangsOn trees (table_wire trees.shape t j) p → i ≡ j
  pub apart : (t u j p : ℕ) → is_one_of ts t ≡ true → is_one_of ts u ≡ true → j < 6 → HangsOn trees (table_wire trees.shape t j) p →
      ¬ HangsOn trees (table_wire trees.shape u 6) p
  pub own : (t u p : ℕ) → is_one_of ts t ≡ true → is_one_of ts u ≡ true → HangsOn trees (table_wire trees.shape t 6) p →
      HangsOn trees (table_wire trees.shape u 6) p → t ≡ u

-- the forest's crosspoints are closed, and no others; the tables have this setting, and no others are on; a cycle has one tick
pub record IsTableConfig (trees : Trees) (ts : List Table) (s : Setting) (g : Configuration) : Type 0 where
  pub shape : g.shape ≡ trees.shape
  pub closed : (x : ℕ) → is_closed g x ≡ is_laid trees x
  pub on : (t : ℕ) → is_one_of ts t ≡ true → setting_of g t ≡ Some s
  pub off : (t : ℕ) → is_one_of ts t ≡ false → setting_of g t ≡ None
  pub one : g.ticks ≡ 1

-- an input of one of these tables hangs on the pin
pub record IsInputPin (trees : Trees) (ts : List Table) (p : ℕ) : Type 0 where
  pub table : ℕ
  pub input : ℕ
  pub is_one : is_one_of ts table ≡ true
  pub below : input < 6
  pub hangs : HangsOn trees (table_wire trees.shape table input) p

-- There are 65 drives. The one for an address has bit j of it at the pin of input j, and pulls no other pin to 0; the last one
-- releases all.
pub record AreAddressDrives (trees : Trees) (ts : List Table) (drives : List Pins) : Type 0 where
  pub many : length drives ≡ 65
  pub bits : (a t j p : ℕ) → a < 64 → is_one_of ts t ≡ true → j < 6 → HangsOn trees (table_wire trees.shape t j) p →
      slice_index_or (slice_index_or drives a []) p true ≡ (bit_at a j == 1)
  pub only : (n p : ℕ) → slice_index_or (slice_index_or drives n []) p true ≡ false → IsInputPin trees ts p
  pub last : (p : ℕ) → slice_index_or (slice_index_or drives 64 []) p true ≡ true

-- the setting of the second load: the other initial bit, and each cell the other
pub record AreOpposite (s z : Setting) : Type 0 where
  pub latched : z.latched ≡ s.latched
  pub init : z.init ≡ not s.init
  pub cells : (a : ℕ) → a < 64 → cell_of z a ≡ not (cell_of s a)

-- what a table with this setting shows that is right: the initial bit in cycle 0, and cell a in cycle a + 1
abbrev pub shown_in : Setting → ℕ → Bool
shown_in s zero = s.init
shown_in s (suc a) = cell_of s a

-- the pin reads in a cycle what is shown, and in that of the second load the opposite
abbrev pub is_right_in : Setting → List Pins → List Pins → ℕ → ℕ → Bool
is_right_in s reads opposite pin n =
    if shown_in s n then read_at reads n pin && not (read_at opposite n pin) else not (read_at reads n pin) && read_at opposite n pin

-- it does in each of the first n cycles
unfoldable pub is_right_before : Setting → List Pins → List Pins → ℕ → ℕ → Bool
is_right_before s reads opposite pin zero = true
is_right_before s reads opposite pin (suc n) = is_right_before s reads opposite pin n && is_right_in s reads opposite pin n

-- of each of these tables that is right in cycle 0 the register, and each cell a where it is right in cycle a + 1 too
abbrev pub right_parts : Trees → List Table → Setting → List Pins → List Pins → Gain
right_parts trees ts s reads opposite = record nothing {
  cells = λ t a. is_one_of ts t && (nat_lt a 64 && (is_right_in s reads opposite (output_pin trees t) 0 &&
      is_right_in s reads opposite (output_pin trees t) (suc a)));
  registers = λ t. is_one_of ts t && is_right_in s reads opposite (output_pin trees t) 0;
}

-- the tables had this setting in a load, and all pins read so under these drives
pub record IsTableLoad (told : Option Faults) (trees : Trees) (ts : List Table) (s : Setting) (drives reads : List Pins) : Type 0 where
  pub config : Configuration
  pub laid : IsTableConfig trees ts s config
  pub run : (f : Faults) → told ≡ Some f → IsRun f config drives reads

-- What two loads show. The first has all tables latched, with the initial bit 0, and the second the opposite; both are driven through
-- all addresses. What is right is kept, and each table that isn't right in each cycle is marked. The session is the second load.
pub record HasTabled (told : Option Faults) (trees : Trees) (ts : List Table) (rig : RigState) (k l : Kept)
    (was is : List Bool) : Type 0 where
  pub setting : Setting
  pub latched : setting.latched ≡ true
  pub low : setting.init ≡ false
  pub other : Setting
  pub opposed : AreOpposite setting other
  pub drives : List Pins
  pub driven : AreAddressDrives trees ts drives
  pub reads : List Pins
  pub first : IsTableLoad told trees ts setting drives reads
  pub opposite : List Pins
  pub second : IsTableLoad told trees ts other drives opposite
  pub gains : Gains (right_parts trees ts setting reads opposite) k l
  pub marks : (t : ℕ) → has_number is t ≡
      ((is_one_of ts t && not (is_right_before setting reads opposite (output_pin trees t) 65)) || has_number was t)
  pub session : HasCycled second.config drives rig

-- the tables had this setting in a session, and all pins read so under these drives
pub record IsTableSession (trees : Trees) (ts : List Table) (s : Setting) (drives reads : List Pins) (session : Past) : Type 0 where
  pub laid : IsTableConfig trees ts s session.config
  pub driven : drives_of session.cycles ≡ drives
  pub read : readings_of session.cycles ≡ reads

-- the sessions of the two loads are new in the log, and just what they show is kept and marked
pub record ShowsTabled (trees : Trees) (ts : List Table) (old new : RigState) (k l : Kept) (was is : List Bool) : Type 0 where
  pub setting : Setting
  pub latched : setting.latched ≡ true
  pub low : setting.init ≡ false
  pub other : Setting
  pub opposed : AreOpposite setting other
  pub drives : List Pins
  pub driven : AreAddressDrives trees ts drives
  pub reads : List Pins
  pub first : Past
  pub first_is : IsTableSession trees ts setting drives reads first
  pub opposite : List Pins
  pub second : Past
  pub second_is : IsTableSession trees ts other drives opposite second
  pub logged : HasLogged (first ∷ second ∷ []) old new
  pub gains : Gains (right_parts trees ts setting reads opposite) k l
  pub marks : (t : ℕ) → has_number is t ≡
      ((is_one_of ts t && not (is_right_before setting reads opposite (output_pin trees t) 65)) || has_number was t)

-- a table that is newly marked has a wrong cell or a stuck register, where the faults are told and what is kept is true of them
abbrev pub MarksWrong : Option Faults → Kept → List Bool → List Bool → Type 0
MarksWrong told k was is = (f : Faults) → told ≡ Some f → HoldsFor k f → (t : ℕ) → has_number was t ≡ false → has_number is t ≡ true →
    ¬ IsRightTable f t

-- .. and all marked tables have
abbrev pub WrongIf : Option Faults → Kept → List Bool → Type 0
WrongIf told k marks = (f : Faults) → told ≡ Some f → HoldsFor k f → (t : ℕ) → has_number marks t ≡ true → ¬ IsRightTable f t
