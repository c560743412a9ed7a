-- What a list of defects is of a machine, by all that was read of it.
use Rattle.std.specs.Prelude.{◌≡◌, ◌⊎◌, ℕ, ◌+◌, ◌*◌, ◌^◌, ◌<◌, ◌≤◌}
use Rattle.machine_shape.specs.{declared.Shape.Shape, Shape.wires_of, Shape.crosses_of, Shape.tables_of}
use Rattle.machine_meaning.specs.Vocabulary.{Faults, IsFaultless, Defects, Covers, IsFair, IsTight}
use Rattle.rig.specs.Rig.{RigState, Explains, cycles_made}
use Rattle.diag_evidence.specs.Kept.{most_cycles}

-- The list covers each set of faults that explains what was read, is fair to it, and is tight to it: nothing on it both works and can be
-- reached over what is free
pub record IsDiagnosisOn (rig : RigState) (m : Shape) (d : Defects) : Type 0 where
  pub covers : (f : Faults) → Explains f rig → Covers m d f
  pub fair : (f : Faults) → Explains f rig → IsFair m d f
  pub tight : (f : Faults) → Explains f rig → IsTight m d f

-- at most 16 loads for each crosspoint, 20 for each wire and 130 for each table, and 2, 3 and 130 where what was read is explained
-- without faults
pub record TakesFewLoadsOn (rig : RigState) (m : Shape) (before after : ℕ) : Type 0 where
  pub always : after ≤ before + (16 * crosses_of m + (20 * wires_of m + 130 * tables_of m))
  pub faultless : (f : Faults) → Explains f rig → IsFaultless f →
      after ≤ before + (2 * crosses_of m + (3 * wires_of m + 130 * tables_of m))

-- The rig is as it was; or its log was begun since, and has at most 65 cycles for each load by which the loads rose, or one more than
-- the attached machine has pins where that is more, as long as the number of loads has room to grow
abbrev pub MakesFewCycles : (old new : RigState) → Type 0
MakesFewCycles old new = (new ≡ old) ⊎ (new.loads + 1 < 2 ^ 64 →
    cycles_made new + most_cycles new.machine * old.loads ≤ most_cycles new.machine * new.loads)
