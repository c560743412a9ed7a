-- What the looks at an image's parts say.
use Rattle.std.specs.Prelude.{◌≡◌, ℕ, ◌+◌, ◌*◌, ◌<◌, ◌≤◌, Bool, true, Option, Some, IsSome, IsTrue, List, length, Contains}
use Rattle.base_bits.specs.Numbers.{size_of}
use Rattle.machine_meaning.specs.Vocabulary.{Faults, IsSeated}
use Rattle.machine_config.specs.{declared.Setting.Setting, Configuration.is_closed, Configuration.setting_of}
use Rattle.machine_image.specs.Vocabulary.{ImageValue, Uses}
use Rattle.diag_evidence.specs.Kept.{Kept, HoldsFor, keeps_cross, keeps_cell, keeps_register}
use Rattle.diag_known.specs.{Known.HasWire, Known.IsKeptCrossOf, declared.verified_wire.VerifiedWire.VerifiedWire}
use Rattle.diag_known.specs.declared.field.Field.{Field}
use Rattle.diag_check.specs.{Near.AreSurroundings, Skeleton.HasSkeleton}
use Rattle.diag_check.specs.Soundly.{PartsAreSound, IsUnharmed, StandsBySurroundings, HasSurroundings}

-- the used wires are known, and the closed crosspoints kept
pub record AreRoutesKnown (k : Kept) (ss : List VerifiedWire) (i : ImageValue) : Type 0 where
  pub wires : (w : ℕ) → Uses i w → HasWire ss w
  pub crosses : (x : ℕ) → is_closed i.config x ≡ true → keeps_cross k x ≡ true

-- what an image needs of a table is kept: its cells, and its register if it is latched
pub record KeepsTableOf (k : Kept) (i : ImageValue) (t : ℕ) : Type 0 where
  pub cells : (a : ℕ) → a < 64 → keeps_cell k t a ≡ true
  pub register : (s : Setting) → setting_of i.config t ≡ Some s → s.latched ≡ true → keeps_register k t ≡ true

-- each switched-on table is seated in known wires and kept crosspoints
abbrev pub AreSeated : Kept → List VerifiedWire → ImageValue → Type 0
AreSeated k ss i = (t : ℕ) → IsSome (setting_of i.config t) → IsSeated k.shape (HasWire ss) (IsKeptCrossOf k) t

-- Where the faults are told, what was kept is true of them, they leave the image unharmed and the field has its skeleton, the answer is
-- yes, and the tables are seated. So where the image stands by its surroundings, and these are the field.
pub record RoutesIf (told : Option Faults) (old new : Kept) (ss : List VerifiedWire) (i : ImageValue) (a : Field) (yes : Bool) : Type 0 where
  pub at : (f : Faults) → told ≡ Some f → HoldsFor old f → IsUnharmed f i → HasSkeleton i a → IsTrue yes × AreSeated new ss i
  pub ways : (f : Faults) → told ≡ Some f → HoldsFor old f → StandsBySurroundings f i → AreSurroundings i a →
      IsTrue yes × AreSeated new ss i

-- Where they are told, what was kept is true of them, the image's parts are sound and its tables are seated, it is yes.
pub record TablesIf (told : Option Faults) (k : Kept) (ss : List VerifiedWire) (i : ImageValue) (yes : Bool) : Type 0 where
  pub at : (f : Faults) → told ≡ Some f → HoldsFor k f → PartsAreSound f i → AreSeated k ss i → IsTrue yes

-- Where they are told, what was kept is true of them, they leave the image unharmed and the field has its skeleton, it is found that the
-- parts are kept. So where the image stands by its surroundings, and these are the field.
pub record FieldIf (told : Option Faults) (k : Kept) (i : ImageValue) (a : Field) (found : Bool) : Type 0 where
  pub at : (f : Faults) → told ≡ Some f → HoldsFor k f → IsUnharmed f i → HasSkeleton i a → IsTrue found
  pub ways : (f : Faults) → told ≡ Some f → HoldsFor k f → StandsBySurroundings f i → AreSurroundings i a → IsTrue found

-- Where they are told, what was kept is true of them, and they leave the image unharmed, or it stands by its surroundings, it is yes.
pub record WholeIf (told : Option Faults) (k : Kept) (i : ImageValue) (yes : Bool) : Type 0 where
  pub at : (f : Faults) → told ≡ Some f → HoldsFor k f → IsUnharmed f i → IsTrue yes
  pub ways : (f : Faults) → told ≡ Some f → HoldsFor k f → StandsBySurroundings f i → IsTrue yes

-- each closed crosspoint of an image is in the list, and each switched-on table
abbrev pub HasClosed : ImageValue → List ℕ → Type 0
HasClosed i xs = (x : ℕ) → is_closed i.config x ≡ true → Contains xs x

abbrev pub HasTablesOn : ImageValue → List ℕ → Type 0
HasTablesOn i ts = (t : ℕ) → IsSome (setting_of i.config t) → Contains ts t

-- The loads of tests of the tables: so many for any list that has each switched-on table. A table has pins among the used wires, which
-- pay a part
pub record TakesForTables (i : ImageValue) (used : List Bool) (before after : ℕ) : Type 0 where
  pub few : (ts : List ℕ) → HasTablesOn i ts → after ≤ before + (126 * length ts + 4 * size_of used)

-- those of growth in a field besides
pub record TakesInField (i : ImageValue) (used : List Bool) (a : Field) (before after : ℕ) : Type 0 where
  pub few : (ts : List ℕ) → HasTablesOn i ts →
      after ≤ before + (8 * size_of a.crosses + 3 * size_of a.wires) + (126 * length ts + 4 * size_of used)

-- the loads of the sweep and in the first field: so many for any lists that have each closed crosspoint and each switched-on table
pub record TakesAtMost (i : ImageValue) (nodes used : List Bool) (before after : ℕ) : Type 0 where
  pub few : (xs ts : List ℕ) → HasClosed i xs → HasTablesOn i ts →
      after ≤ before + (238 * size_of nodes + 256 * size_of used + 16 * length xs + 130 * length ts)

-- .. and in the surroundings, for any lists that have these
pub record TakesAround (i : ImageValue) (nodes used : List Bool) (before after : ℕ) : Type 0 where
  pub few : (xs ts crosses wires : List ℕ) → HasClosed i xs → HasTablesOn i ts → HasSurroundings i crosses wires →
      after ≤ before + (238 * size_of nodes + 256 * size_of used + 16 * length xs + 256 * length ts)
      + (8 * length crosses + 3 * length wires)

-- where the faults are told, what was kept is true of them, and they leave the image unharmed, those in the first field alone
pub record FewerIf (told : Option Faults) (k : Kept) (i : ImageValue) (nodes used : List Bool) (before after : ℕ) : Type 0 where
  pub at : (f : Faults) → told ≡ Some f → HoldsFor k f → IsUnharmed f i → TakesAtMost i nodes used before after
