-- A list of defects, what it leaves free, and when it covers the faults of a machine and is fair to them.
use Rattle.std.specs.Prelude.{◌≡◌, ℕ, ◌<◌, true, false, None}
use Rattle.std.specs.Ordering.{nat_cmp}
use Rattle.std.specs.FinSet as set
use Rattle.machine_shape.specs.declared.Shape.{Shape}
use Rattle.machine_shape.specs.Shape.{table_wire, ends_of, wires_of, crosses_of, tables_of, node_of, node_of_cross, hextant_of, IsLine}
use Rattle.machine_meaning.specs.Faults.{Faults, stuck_wire, stuck_cross, wrong_cell, stuck_register}
use Rattle.machine_meaning.specs.Joined.{Shorted}
use Rattle.machine_meaning.specs.Sound.{IsSoundWire, IsSoundCross, IsSoundTable, IsWholeLine, HasTwo, IsServed}

pub record Defects : Type 0 where
  pub wires : set.FinSet nat_cmp
  pub crosses : set.FinSet nat_cmp
  pub tables : set.FinSet nat_cmp

-- free: not listed
abbrev pub IsFreeWire : Defects → ℕ → Type 0
IsFreeWire d w = set.contains d.wires w ≡ false

-- a list of a machine of this shape: it holds crosspoints and tables only where all their wires are free
pub record AreDefectsOf (m : Shape) (d : Defects) : Type 0 where
  pub wires : (w : ℕ) → set.contains d.wires w ≡ true → w < wires_of m
  pub crosses : (x : ℕ) → set.contains d.crosses x ≡ true → x < crosses_of m
  pub tables : (t : ℕ) → set.contains d.tables t ≡ true → t < tables_of m
  pub taps : (x : ℕ) → set.contains d.crosses x ≡ true → IsFreeWire d (ends_of m x).0
  pub lines : (x : ℕ) → set.contains d.crosses x ≡ true → IsFreeWire d (ends_of m x).1
  pub pins : (t k : ℕ) → set.contains d.tables t ≡ true → k < 7 → IsFreeWire d (table_wire m t k)

pub record IsFreeCross (m : Shape) (d : Defects) (x : ℕ) : Type 0 where
  pub itself : set.contains d.crosses x ≡ false
  pub tap : IsFreeWire d (ends_of m x).0
  pub line : IsFreeWire d (ends_of m x).1

pub record IsFreeTable (m : Shape) (d : Defects) (t : ℕ) : Type 0 where
  pub itself : set.contains d.tables t ≡ false
  pub pins : (k : ℕ) → k < 7 → IsFreeWire d (table_wire m t k)

-- a line that is free with its crosspoints to all free taps of its crossbar
pub record IsOpenLine (m : Shape) (d : Defects) (line : ℕ) : Type 0 where
  pub itself : IsFreeWire d line
  pub crosses : (x : ℕ) → x < crosses_of m → (ends_of m x).1 ≡ line → IsFreeWire d (ends_of m x).0 → IsFreeCross m d x

-- no wire that the wire is shorted to is stuck, itself among them
abbrev pub IsClear : Shape → Faults → ℕ → Type 0
IsClear m f w = (u : ℕ) → Shorted m f w u → stuck_wire f u ≡ None

-- No free crosspoint and no free table has a fault, and no free wire is shorted to a stuck one or to another free one.
pub record Covers (m : Shape) (d : Defects) (f : Faults) : Type 0 where
  pub crosses : (x : ℕ) → x < crosses_of m → IsFreeCross m d x → stuck_cross f x ≡ None
  pub cells : (t a : ℕ) → t < tables_of m → a < 64 → IsFreeTable m d t → wrong_cell f t a ≡ None
  pub registers : (t : ℕ) → t < tables_of m → IsFreeTable m d t → stuck_register f t ≡ None
  pub wires : (w : ℕ) → w < wires_of m → IsFreeWire d w → IsClear m f w
  pub pairs : (w u : ℕ) → w < wires_of m → u < wires_of m → IsFreeWire d w → IsFreeWire d u → Shorted m f w u → w ≡ u

-- a line with two sound crosspoints at least, or no line
pub record IsOfUse (m : Shape) (f : Faults) (w : ℕ) : Type 0 where
  pub crosses : IsLine m (node_of m w) w → HasTwo (λ x. (x < crosses_of m) × ((ends_of m x).1 ≡ w) × IsSoundCross m f x)

-- Of the served nodes the list holds no sound wire except a line with fewer than two sound crosspoints, no sound crosspoint, no
-- crosspoint of a whole line, and no sound table. Of other nodes it may hold anything.
pub record IsFair (m : Shape) (d : Defects) (f : Faults) : Type 0 where
  pub wires : (w : ℕ) → w < wires_of m → IsServed m f (node_of m w) → IsSoundWire m f w → IsOfUse m f w → IsFreeWire d w
  pub crosses : (x : ℕ) → x < crosses_of m → IsServed m f (node_of_cross m x) → IsSoundCross m f x → set.contains d.crosses x ≡ false
  pub whole : (x : ℕ) → x < crosses_of m → IsServed m f (node_of_cross m x) → IsWholeLine m f (ends_of m x).1 →
      set.contains d.crosses x ≡ false
  pub tables : (t : ℕ) → t < tables_of m → IsServed m f (hextant_of m t) → IsSoundTable m f t → set.contains d.tables t ≡ false
