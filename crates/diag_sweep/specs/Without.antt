-- A field without what is marked bad.
use Rattle.std.specs.Prelude.{◌≡◌, ℕ, Bool, not, ◌&&◌, List, length}
use Rattle.base_bits.specs.Numbers.{has_number}
use Rattle.diag_known.specs.declared.field.Field.{Field}
use Rattle.diag_sweep.specs.declared.defect_marks.DefectMarks.{DefectMarks}

-- a set of numbers without those of another
pub record AreWithout (out these rest : List Bool) : Type 0 where
  pub len : length rest ≡ length these
  pub each : (i : ℕ) → has_number rest i ≡ (has_number these i && not (has_number out i))

-- the field without the crosspoints that are marked stuck, and without the wires that are marked unfit or unclear
pub record IsWithout (b : DefectMarks) (a rest : Field) : Type 0 where
  pub crosses : AreWithout b.stuck a.crosses rest.crosses
  pub len : length rest.wires ≡ length a.wires
  pub wires : (w : ℕ) → has_number rest.wires w ≡ (has_number a.wires w && (not (has_number b.unfit w) && not (has_number b.unclear w)))
