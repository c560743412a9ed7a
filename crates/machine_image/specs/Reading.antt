-- What is known of an image that is read in part.
use Rattle.std.specs.Prelude.{◌≡◌, ◌≢◌, ℕ, suc, ◌+◌, ◌<◌, ◌≤◌, false, None, List, [], ◌++◌, length, drop, codes, All, AllPairs}
use Rattle.std.specs.List.{flat_map}
use Rattle.std.specs.FinSet as set
use Rattle.machine_shape.specs.declared.Shape.{Shape}
use Rattle.machine_shape.specs.Vocabulary.{pins_of, tables_of, crosses_of, most_ticks, most_closed}
use Rattle.machine_config.specs.{declared.Setting.Setting, Configuration.Configuration, Configuration.is_closed, Configuration.setting_of}
use Rattle.machine_image.specs.{declared.read.Head.Head, Faults.counts_of, Faults.InPins, Faults.InTables, Faults.InCrosses, Faults.InImage}
use Rattle.machine_image.specs.{Fields.Passed, Images.two, Images.four, Images.table_bytes, Images.tables_on, Images.closed_in}

-- what stands before the pins
abbrev pub head_bytes : Shape → (ticks inputs outputs : ℕ) → List ℕ
head_bytes m ticks inputs outputs =
    codes "TERAIMG1" ++ (flat_map two (counts_of m) ++ (two ticks ++ (two inputs ++ two outputs)))

pub record IsHead (m : Shape) (bytes : List ℕ) (h : Head) : Type 0 where
  pub some : 1 ≤ h.ticks
  pub few : h.ticks ≤ most_ticks m
  pub passed : Passed bytes 0 h.at (head_bytes m h.ticks h.inputs h.outputs) (λ l k. InImage m bytes l k)
      (λ l k. InPins m bytes l k h.at (h.inputs + h.outputs) [])

-- these pins of so many were read, and so many are left
pub record ArePins (m : Shape) (bytes : List ℕ) (start at count left : ℕ) (pins : List ℕ) : Type 0 where
  pub len : length pins + left ≡ count
  pub within : All (λ k. k < pins_of m) pins
  pub apart : AllPairs (λ j k. j ≢ k) pins
  pub passed : Passed bytes start at (flat_map two pins) (λ l k. InPins m bytes l k start count []) (λ l k. InPins m bytes l k at left pins)

-- these tables of so many were read and switched on, so many are left, and the next is at least this one
pub record AreTables (m : Shape) (bytes : List ℕ) (start at count left least : ℕ) (g : Configuration) : Type 0 where
  pub len : length (tables_on g) + left ≡ count
  pub off : (t : ℕ) → least ≤ t → setting_of g t ≡ None
  pub passed : Passed bytes start at (flat_map table_bytes (tables_on g)) (λ l k. InTables m bytes l k start count 0)
      (λ l k. InTables m bytes l k at left least)

-- these crosspoints of so many were read and closed, so many are left, and the next is at least this one
pub record AreCrosses (m : Shape) (bytes : List ℕ) (start at count left least : ℕ) (g : Configuration) : Type 0 where
  pub len : length (closed_in g) + left ≡ count
  pub few : set.len g.closed + left ≤ count
  pub off : (x : ℕ) → least ≤ x → is_closed g x ≡ false
  pub passed : Passed bytes start at (flat_map four (closed_in g)) (λ l k. InCrosses m bytes l k start count 0)
      (λ l k. InCrosses m bytes l k at left least)

-- all of so many tables were read, and all of so many crosspoints
pub record TablesRead (m : Shape) (bytes : List ℕ) (start end count : ℕ) (g : Configuration) : Type 0 where
  pub len : length (tables_on g) ≡ count
  pub passed : Passed bytes start end (flat_map table_bytes (tables_on g)) (λ l k. InTables m bytes l k start count 0)
      (λ l k. InTables m bytes l k end 0 0)

pub record CrossesRead (m : Shape) (bytes : List ℕ) (start end count : ℕ) (g : Configuration) : Type 0 where
  pub len : length (closed_in g) ≡ count
  pub few : set.len g.closed ≤ count
  pub passed : Passed bytes start end (flat_map four (closed_in g)) (λ l k. InCrosses m bytes l k start count 0)
      (λ l k. InCrosses m bytes l k end 0 0)

-- what stands behind the pins
abbrev pub settings_bytes : Configuration → List ℕ
settings_bytes g =
    two (length (tables_on g)) ++ (flat_map table_bytes (tables_on g) ++ (four (length (closed_in g)) ++ flat_map four (closed_in g)))

pub record AreSettings (m : Shape) (bytes : List ℕ) (at ticks : ℕ) (g : Configuration) : Type 0 where
  pub shape : g.shape ≡ m
  pub ticks_are : g.ticks ≡ ticks
  pub few : set.len g.closed ≤ most_closed g.shape
  pub few_on : length (tables_on g) ≤ most_ticks g.shape
  pub text : drop at bytes ≡ settings_bytes g

-- a table was read
pub record IsTable (m : Shape) (bytes : List ℕ) (at least t : ℕ) (s : Setting) : Type 0 where
  pub least_is : least ≤ t
  pub passed : (left : ℕ) → Passed bytes at (at + 11) (table_bytes (t, s)) (λ l k. InTables m bytes l k at (suc left) least)
      (λ l k. InTables m bytes l k (at + 11) left (suc t))

-- how large the numbers of a machine are
pub record Bounds (m : Shape) : Type 0 where
  pub counts : All (λ n. n < 65536) (counts_of m)
  pub pins : pins_of m ≤ 16384
  pub tables : tables_of m ≤ 65536
  pub crosses : crosses_of m ≤ 268435456
  pub ticks : most_ticks m ≤ 65535
