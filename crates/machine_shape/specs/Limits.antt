-- Which counts make a shape, and what is wrong with the others.
use Rattle.std.specs.Prelude.{◌≡◌, ℕ, ◌<◌, ◌≤◌, ◌&&◌, Bool, false, nat_le, Contains}
use Rattle.machine_shape.specs.declared.{Counts.Counts, ShapeFault.ShapeFault}
use Rattle.machine_shape.specs.declared.{Field.Field, LimitedCount.LimitedCount, ShapeFault.TheVariants.Zero, ShapeFault.TheVariants.Limit}
use Rattle.machine_shape.specs.declared.Field.TheVariants.{Modules, Chips, Hextants, Tables, Ports, Lines, Pins}
use Rattle.machine_shape.specs.declared.LimitedCount.TheVariants as which
use Rattle.machine_shape.specs.{Counts.levels_from, Counts.IsFull, Walk.size, Walk.wires_in, Walk.crosses_in, Walk.tables_in}

-- a count of this field is 0
abbrev pub HasZero : Counts → Field → Type 0
HasZero c Modules = c.modules ≡ 0
HasZero c Chips = c.chips ≡ 0
HasZero c Hextants = c.hextants ≡ 0
HasZero c Tables = c.tables ≡ 0
HasZero c Ports = Contains c.ports 0
HasZero c Lines = Contains c.lines 0
HasZero c Pins = c.pins ≡ 0

-- the order of the fields
abbrev pub place_of_field : Field → ℕ
place_of_field Modules = 0
place_of_field Chips = 1
place_of_field Hextants = 2
place_of_field Tables = 3
place_of_field Ports = 4
place_of_field Lines = 5
place_of_field Pins = 6

pub record IsFirstZero (c : Counts) (field : Field) : Type 0 where
  pub zero : HasZero c field
  pub first : (other : Field) → place_of_field other < place_of_field field → ¬ HasZero c other

-- how many a machine of these counts has
abbrev pub amount_of : Counts → LimitedCount → ℕ
amount_of c which.Tables = size tables_in (levels_from c)
amount_of c which.Wires = size wires_in (levels_from c)
amount_of c which.Crosspoints = size crosses_in (levels_from c)
amount_of c which.Pins = c.pins

-- how many a small machine may have, whose pins are among its wires
abbrev pub most_of_small : LimitedCount → ℕ
most_of_small which.Tables = 4096
most_of_small which.Wires = 16384
most_of_small which.Crosspoints = 4194304
most_of_small which.Pins = 16384

-- and how many every other
abbrev pub most_of_large : LimitedCount → ℕ
most_of_large which.Tables = 65536
most_of_large which.Wires = 1310720
most_of_large which.Crosspoints = 268435456
most_of_large which.Pins = 8192

-- whether a machine of these counts is small
unfoldable pub is_small : Counts → Bool
is_small c =
    nat_le (amount_of c which.Tables) 4096 && (nat_le (amount_of c which.Wires) 16384 && nat_le (amount_of c which.Crosspoints) 4194304)

-- the order of the limits
abbrev pub place_of_limit : LimitedCount → ℕ
place_of_limit which.Tables = 0
place_of_limit which.Wires = 1
place_of_limit which.Crosspoints = 2
place_of_limit which.Pins = 3

-- it is the first that passes its limit
pub record IsFirstPassed (most : LimitedCount → ℕ) (c : Counts) (which : LimitedCount) : Type 0 where
  pub passed : most which < amount_of c which
  pub first : (other : LimitedCount) → place_of_limit other < place_of_limit which → amount_of c other ≤ most other

-- the counts make no small shape, for this reason
abbrev pub IsSmallFault : Counts → ShapeFault → Type 0
IsSmallFault c (Zero field) = IsFirstZero c field
IsSmallFault c (Limit which value) = IsFull c × IsFirstPassed most_of_small c which × (value ≡ amount_of c which)

-- the counts make no shape, for this reason
abbrev pub IsShapeFault : Counts → ShapeFault → Type 0
IsShapeFault c (Zero field) = IsFirstZero c field
IsShapeFault c (Limit which value) =
    IsFull c × (is_small c ≡ false) × IsFirstPassed most_of_large c which × (value ≡ amount_of c which)

-- the counts make a small shape
pub record MakeSmall (c : Counts) : Type 0 where
  pub full : (field : Field) → ¬ HasZero c field
  pub within : (which : LimitedCount) → amount_of c which ≤ most_of_small which

-- the counts make a shape
pub record MakeShape (c : Counts) : Type 0 where
  pub full : (field : Field) → ¬ HasZero c field
  pub within : is_small c ≡ false → (which : LimitedCount) → amount_of c which ≤ most_of_large which
