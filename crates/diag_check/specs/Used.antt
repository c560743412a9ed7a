-- Marks of the wires that an image uses, and of the nodes that it involves.
use Rattle.std.specs.Prelude.{◌≡◌, ℕ, Bool, true, List, length}
use Rattle.base_bits.specs.Numbers.{has_number}
use Rattle.machine_shape.specs.Shape.{wires_of, nodes_of}
use Rattle.machine_image.specs.Vocabulary.{ImageValue, Uses, IsInvolved}

-- there is a mark for each wire, and just the used ones are marked
pub record AreUsed (i : ImageValue) (used : List Bool) : Type 0 where
  pub len : length used ≡ wires_of i.config.shape
  pub only : (w : ℕ) → has_number used w ≡ true → Uses i w
  pub all : (w : ℕ) → Uses i w → has_number used w ≡ true

-- so for each node
pub record AreInvolved (i : ImageValue) (nodes : List Bool) : Type 0 where
  pub len : length nodes ≡ nodes_of i.config.shape
  pub only : (n : ℕ) → has_number nodes n ≡ true → IsInvolved i n
  pub all : (n : ℕ) → IsInvolved i n → has_number nodes n ≡ true
