-- What a diagnosis is, and how many loads it takes.
use Rattle.std.specs.Prelude.{◌≡◌, ℕ, ◌+◌, ◌*◌, ◌≤◌, Option, Some}
use Rattle.machine_shape.specs.{declared.Shape.Shape, Shape.wires_of, Shape.crosses_of, Shape.tables_of}
use Rattle.machine_meaning.specs.Vocabulary.{Faults, IsFaultless, Defects, Covers, IsFair, IsTight}

-- where the faults are told, the list covers them, is fair to them, and is tight to them: nothing on it both works and
-- can be reached over what is free
pub record IsDiagnosis (told : Option Faults) (m : Shape) (d : Defects) : Type 0 where
  pub covers : (f : Faults) → told ≡ Some f → Covers m d f
  pub fair : (f : Faults) → told ≡ Some f → IsFair m d f
  pub tight : (f : Faults) → told ≡ Some f → IsTight m d f

-- at most 16 loads for each crosspoint, 20 for each wire and 130 for each table
abbrev pub TakesAtMost : Shape → (before after : ℕ) → Type 0
TakesAtMost m before after = after ≤ before + (16 * crosses_of m + (20 * wires_of m + 130 * tables_of m))

-- at most 16 loads for each crosspoint, 20 for each wire and 130 for each table, and where the machine is told to have no
-- faults, 2, 3 and 130
pub record TakesFewLoads (told : Option Faults) (m : Shape) (before after : ℕ) : Type 0 where
  pub always : TakesAtMost m before after
  pub faultless : (f : Faults) → told ≡ Some f → IsFaultless f →
      after ≤ before + (2 * crosses_of m + (3 * wires_of m + 130 * tables_of m))
