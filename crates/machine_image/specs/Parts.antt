-- What an image is made of, what of it is free, how wide a machine has to be for it, and what surrounds it there.
use Rattle.std.specs.Prelude.{◌≡◌, ℕ, ◌<◌, ◌≤◌, true, ◌++◌, IsSome, All, Contains}
use Rattle.machine_shape.specs.declared.Shape.{Shape}
use Rattle.machine_shape.specs.Shape.{pins_of, lines_of, own_ports_of, crosses_of, pin_wire, table_wire, ends_of, node_of, node_of_cross}
use Rattle.machine_shape.specs.Shape.{IsAbove, IsLine, IsPort}
use Rattle.machine_meaning.specs.Defects.{Defects, IsFreeWire, IsFreeCross, IsFreeTable}
use Rattle.machine_config.specs.Configuration.{is_closed, setting_of}
use Rattle.machine_image.specs.Images.{ImageValue}

-- its closed crosspoints, its switched-on tables and its pins are free
pub record IsFreeImage (d : Defects) (i : ImageValue) : Type 0 where
  pub crosses : (x : ℕ) → is_closed i.config x ≡ true → IsFreeCross i.config.shape d x
  pub tables : (t : ℕ) → IsSome (setting_of i.config t) → IsFreeTable i.config.shape d t
  pub pins : All (λ k. IsFreeWire d (pin_wire i.config.shape k)) (i.inputs ++ i.outputs)

-- the wires that it uses: its pins, the ends of its closed crosspoints, and the pins of its switched-on tables
pub data Uses (i : ImageValue) (w : ℕ) : Type 0 where
  at_pin : (k : ℕ) → Contains (i.inputs ++ i.outputs) k → w ≡ pin_wire i.config.shape k → Uses i w
  at_tap : (x : ℕ) → is_closed i.config x ≡ true → w ≡ (ends_of i.config.shape x).0 → Uses i w
  at_line : (x : ℕ) → is_closed i.config x ≡ true → w ≡ (ends_of i.config.shape x).1 → Uses i w
  at_table : (t k : ℕ) → IsSome (setting_of i.config t) → k < 7 → w ≡ table_wire i.config.shape t k → Uses i w

-- a part of a machine, and whether it is one of the image: a wire that it uses, a closed crosspoint, a switched-on table
pub data Part : Type 0 where
  WirePart : (w : ℕ) → Part
  CrossPart : (x : ℕ) → Part
  TablePart : (t : ℕ) → Part

abbrev pub IsPartOf : ImageValue → Part → Type 0
IsPartOf i (WirePart w) = Uses i w
IsPartOf i (CrossPart x) = is_closed i.config x ≡ true
IsPartOf i (TablePart t) = IsSome (setting_of i.config t)

-- a used wire or a closed crosspoint is of the node, or of one below it
pub data IsInvolved (i : ImageValue) (n : ℕ) : Type 0 where
  by_wire : (w : ℕ) → Uses i w → IsAbove i.config.shape n (node_of i.config.shape w) → IsInvolved i n
  by_cross : (x : ℕ) → is_closed i.config x ≡ true → IsAbove i.config.shape n (node_of_cross i.config.shape x) → IsInvolved i n

-- two pins, and in each involved node two lines and, below the root, two ports
pub record IsWideEnough (m : Shape) (i : ImageValue) : Type 0 where
  pub pins : 2 ≤ pins_of m
  pub lines : (n : ℕ) → IsInvolved i n → 2 ≤ lines_of m n
  pub ports : (n : ℕ) → 0 < n → IsInvolved i n → 2 ≤ own_ports_of m n

-- The surroundings of an image. A wire of them is one that it uses, or a line or an own port of an involved node; the root has the
-- pins of the machine for own ports
pub data IsSurroundingWire (i : ImageValue) (w : ℕ) : Type 0 where
  used_wire : Uses i w → IsSurroundingWire i w
  node_line : (n : ℕ) → IsInvolved i n → IsLine i.config.shape n w → IsSurroundingWire i w
  node_port : (n : ℕ) → IsInvolved i n → IsPort i.config.shape n w → IsSurroundingWire i w
  root_pin : (k : ℕ) → IsInvolved i 0 → k < pins_of i.config.shape → w ≡ pin_wire i.config.shape k → IsSurroundingWire i w

-- .. and a crosspoint of them is one of an involved node between two such wires
pub record IsSurroundingCross (i : ImageValue) (x : ℕ) : Type 0 where
  pub within : x < crosses_of i.config.shape
  pub node : IsInvolved i (node_of_cross i.config.shape x)
  pub tap : IsSurroundingWire i (ends_of i.config.shape x).0
  pub line : IsSurroundingWire i (ends_of i.config.shape x).1
