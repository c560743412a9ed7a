-- The field of all that surrounds an image.
use Rattle.std.specs.Prelude.{◌≡◌, ℕ, true}
use Rattle.base_bits.specs.Numbers.{has_number}
use Rattle.machine_shape.specs.declared.Shape.{Shape}
use Rattle.machine_image.specs.Vocabulary.{ImageValue, IsSurroundingWire, IsSurroundingCross}
use Rattle.diag_known.specs.declared.field.Field.{Field}
use Rattle.diag_check.specs.{Marks.IsAmongFirst, declared.picks.Side.Side}
use Rattle.diag_check.specs.{Picked.side_wire, Picked.width_of, declared.picks.Side.TheVariants.Own, declared.picks.Side.TheVariants.Lines}

-- a wire of a side of the node
abbrev pub IsOnSide : Shape → Side → ℕ → ℕ → Type 0
IsOnSide m side n = IsAmongFirst (side_wire m side n) (width_of m side n)

-- of one of the two
pub data IsOfNode (m : Shape) (n w : ℕ) : Type 0 where
  on_own : IsOnSide m Own n w → IsOfNode m n w
  on_lines : IsOnSide m Lines n w → IsOfNode m n w

-- the surroundings of an image, and nothing else
pub record AreSurroundings (i : ImageValue) (a : Field) : Type 0 where
  pub wires : (w : ℕ) → IsSurroundingWire i w → has_number a.wires w ≡ true
  pub crosses : (x : ℕ) → IsSurroundingCross i x → has_number a.crosses x ≡ true
  pub only_wires : (w : ℕ) → has_number a.wires w ≡ true → IsSurroundingWire i w
  pub only_crosses : (x : ℕ) → has_number a.crosses x ≡ true → IsSurroundingCross i x
