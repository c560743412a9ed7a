-- What is so in served nodes, and on machines without faults.
use Rattle.std.specs.Prelude.{◌≡◌, ℕ, ◌<◌, Some, false}
use Rattle.std.specs.FinSet as set
use Rattle.machine_shape.specs.declared.Shape.{Shape}
use Rattle.machine_shape.specs.Vocabulary.{IsAmple, wires_of, crosses_of, tables_of, nodes_of, parent_of, IsLine, IsTap}
use Rattle.machine_meaning.specs.{Faults.Faults, Faults.IsFaultless, Sound.IsSoundWire, Sound.IsWholeLine, Sound.HasTwo, Sound.IsServed}
use Rattle.machine_meaning.specs.Defects.{Defects, IsOfUse, IsFair}

-- nothing of the machine is listed
pub record IsEmptyOf (m : Shape) (d : Defects) : Type 0 where
  pub wires : (w : ℕ) → w < wires_of m → set.contains d.wires w ≡ false
  pub crosses : (x : ℕ) → x < crosses_of m → set.contains d.crosses x ≡ false
  pub tables : (t : ℕ) → t < tables_of m → set.contains d.tables t ≡ false

-- The node above a served node is served. A served node has two sound taps, so a whole line of it has two sound crosspoints.
-- Without faults, where there are two pins and two ports and lines at each level, each node is served, and where each is, a
-- fair list is empty.
pub record HasServed (m : Shape) : Type 0 where
  pub above : (f : Faults) (c n : ℕ) → parent_of m c ≡ Some n → IsServed m f c → IsServed m f n
  pub taps : (f : Faults) (n : ℕ) → n < nodes_of m → IsServed m f n → HasTwo (λ w. IsTap m n w × IsSoundWire m f w)
  pub whole : (f : Faults) (n l : ℕ) → IsServed m f n → IsLine m n l → IsWholeLine m f l → IsOfUse m f l
  pub ample : (f : Faults) → IsFaultless f → IsAmple m.counts → (n : ℕ) → n < nodes_of m → IsServed m f n
  pub empty : (f : Faults) (d : Defects) → IsFaultless f → ((n : ℕ) → n < nodes_of m → IsServed m f n) → IsFair m d f → IsEmptyOf m d
