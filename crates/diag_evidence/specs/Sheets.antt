-- What a test of many tables has at hand.
use Rattle.std.specs.Prelude.{◌≡◌, ℕ, suc, ◌<◌, ◌==◌, ◌&&◌, nat_lt, true, false, Option, Some, List, [], All, length, slice_index_or}
use Rattle.std.specs.Int.{bit_at}
use Rattle.machine_shape.specs.{declared.Shape.Shape, declared.Table.Table, Shape.table_wire, Shape.tables_of, Shape.pins_of}
use Rattle.machine_meaning.specs.Vocabulary.{Pins, Faults}
use Rattle.machine_config.specs.{declared.Setting.Setting, Configuration.Configuration, Configuration.setting_of}
use Rattle.diag_evidence.specs.{declared.sheets.Sheet.Sheet, Forests.Trees, Forests.HangsOn, Forests.IsForest, Kept.Gain, Kept.nothing}
use Rattle.diag_evidence.specs.{Logged.LogsRows, Looks.ReadsEach, Readings.HasCycled}
use Rattle.diag_evidence.specs.TableRows.{AreAddressDrives, AreOpposite, IsTableConfig, is_one_of, is_right_in}
use Rattle.rig.specs.Rig.{RigState}

-- each row has so many bits
abbrev pub HaveWidth : ℕ → List Pins → Type 0
HaveWidth pins rows = All (λ row. length row ≡ pins) rows

-- these tables have the setting, and nothing else changes
pub record SwitchesOn (ts : List Table) (s : Setting) (g h : Configuration) : Type 0 where
  pub on : (t : ℕ) → is_one_of ts t ≡ true → setting_of h t ≡ Some s
  pub others : (t : ℕ) → is_one_of ts t ≡ false → setting_of h t ≡ setting_of g t
  pub closed : h.closed ≡ g.closed
  pub shape : h.shape ≡ g.shape
  pub ticks : h.ticks ≡ g.ticks

-- inputs of a table hang, each on a pin of its own
pub record HasInputs (trees : Trees) (t : ℕ) : Type 0 where
  pub within : t < tables_of trees.shape
  pub differ : (i j p : ℕ) → i < 6 → j < 6 → HangsOn trees (table_wire trees.shape t i) p →
      HangsOn trees (table_wire trees.shape t j) p → i ≡ j

-- one of the first n inputs of a table hangs on the pin
pub record IsPinOf (trees : Trees) (t n p : ℕ) : Type 0 where
  pub input : ℕ
  pub below : input < n
  pub hangs : HangsOn trees (table_wire trees.shape t input) p

-- At the pins of the first n inputs of a table are the bits of an address, and no other pin is 0.
pub record HasAddress (trees : Trees) (t address n : ℕ) (drive : Pins) : Type 0 where
  pub bits : (j p : ℕ) → j < n → HangsOn trees (table_wire trees.shape t j) p → slice_index_or drive p true ≡ (bit_at address j == 1)
  pub only : (p : ℕ) → slice_index_or drive p true ≡ false → IsPinOf trees t n p

-- the first n drives are for the addresses from 0 on
pub record AreAddressesOf (trees : Trees) (t n : ℕ) (drives : List Pins) : Type 0 where
  pub many : length drives ≡ n
  pub each : (a : ℕ) (d : Pins) → a < n → HasAddress trees t a 6 (slice_index_or drives a d)

-- 64 cycles for the cells, and one behind them
pub record AreTableDrives (trees : Trees) (t : ℕ) (drives : List Pins) : Type 0 where
  pub many : length drives ≡ 65
  pub each : (a : ℕ) → a < 64 → HasAddress trees t a 6 (slice_index_or drives a [])
  pub last : (p : ℕ) → slice_index_or (slice_index_or drives 64 []) p true ≡ true

-- there are drives and readings for 65 cycles of a machine
pub record IsSheet (m : Shape) (s : Sheet) : Type 0 where
  pub shape : s.config.config.shape ≡ m
  pub drives : HaveWidth (pins_of m) s.drives.items
  pub many : length s.drives.items ≡ 65
  pub reads : HaveWidth (pins_of m) s.reads.items
  pub as_many : length s.reads.items ≡ 65
  pub opposite : HaveWidth (pins_of m) s.opposite.items
  pub opposed : length s.opposite.items ≡ 65

-- the sheet is ready for the first load of these tables
pub record IsReadyFor (trees : Trees) (ts : List Table) (s : Sheet) : Type 0 where
  pub forest : IsForest trees
  pub sheet : IsSheet trees.shape s
  pub laid : IsTableConfig trees ts s.setting s.config.config
  pub driven : AreAddressDrives trees ts s.drives.items
  pub latched : s.setting.latched ≡ true
  pub low : s.setting.init ≡ false

-- The sheet was read in two loads: in the first as it was, and in the second with the tables at the opposite setting. The session is
-- the second.
pub record IsReadTwice (told : Option Faults) (ts : List Table) (old new : Sheet) (rig : RigState) : Type 0 where
  pub setting : new.setting ≡ old.setting
  pub drives : new.drives.items ≡ old.drives.items
  pub run : ReadsEach told old.config.config old.drives.items new.reads.items
  pub other : Setting
  pub opposed : AreOpposite old.setting other
  pub switched : SwitchesOn ts other old.config.config new.config.config
  pub run_opposite : ReadsEach told new.config.config old.drives.items new.opposite.items
  pub session : HasCycled new.config.config old.drives.items rig

-- the sessions of these two loads are new in the log, with one state of the rig between
pub record LogsSheet (ts : List Table) (old new : Sheet) (before after : RigState) : Type 0 where
  pub setting : new.setting ≡ old.setting
  pub between : RigState
  pub first : LogsRows old.config.config old.drives.items new.reads.items before between
  pub other : Setting
  pub opposed : AreOpposite old.setting other
  pub switched : SwitchesOn ts other old.config.config new.config.config
  pub second : LogsRows new.config.config old.drives.items new.opposite.items between after

-- of a table the first n cells, each where a pin is right in its cycle
abbrev pub right_cells : ℕ → Setting → List Pins → List Pins → ℕ → ℕ → Gain
right_cells t s reads opposite pin n =
    record nothing { cells = λ u a. (t == u) && (nat_lt a n && is_right_in s reads opposite pin (suc a)) }
