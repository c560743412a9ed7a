-- Copies of what an image lays, that are driven with the same bits, and what they read.
use Rattle.std.specs.Prelude.{◌≡◌, ◌≢◌, ◌+◌, ◌/◌, ◌++◌, ℕ, Bool, true, false, List, map, length}
use Rattle.machine_image.specs.Images.{ImageValue}
use Rattle.run_image.specs.declared.copies.Copies.{Copies, TheVariants.One, TheVariants.Two}

-- of so many pins, those of one copy
abbrev pub share : Copies → ℕ → ℕ
share One pins = pins
share Two pins = pins / 2

-- so many pins for each copy
abbrev pub times : Copies → ℕ → ℕ
times One pins = pins
times Two pins = pins + pins

-- the bits of one copy, once for each
abbrev pub repeated : Copies → List Bool → List Bool
repeated One bits = bits
repeated Two bits = bits ++ bits

abbrev pub all_repeated : Copies → List (List Bool) → List (List Bool)
all_repeated One rows = rows
all_repeated Two rows = map (λ row. row ++ row) rows

-- the copies have as many input pins each, and as many output pins
pub record AreEqualShares (c : Copies) (i : ImageValue) : Type 0 where
  pub inputs : times c (share c (length i.inputs)) ≡ length i.inputs
  pub outputs : times c (share c (length i.outputs)) ≡ length i.outputs

-- ---- what they read

-- the bits that the first read, and then those that the second read: they differ
pub record HalvesDiffer (bits : List Bool) : Type 0 where
  pub first : List Bool
  pub second : List Bool
  pub bits_are : bits ≡ first ++ second
  pub halves : length first ≡ length second
  pub differ : first ≢ second

-- the copies read differently, which one alone can't
abbrev pub IsApart : Copies → List Bool → Type 0
IsApart One bits = ⊥
IsApart Two bits = HalvesDiffer bits

-- of the bits that all read, each read these; or they read differently
abbrev pub AreShared : Copies → (same : Bool) → (all bits : List Bool) → Type 0
AreShared c true all bits = all ≡ repeated c bits
AreShared c false all bits = IsApart c all
