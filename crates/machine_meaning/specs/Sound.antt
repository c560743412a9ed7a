-- What of a machine is as it should be, and which nodes can be reached over such parts.
use Rattle.std.specs.Prelude.{◌≡◌, ◌≢◌, ℕ, ◌<◌, None}
use Rattle.machine_shape.specs.declared.Shape.{Shape}
use Rattle.machine_shape.specs.Shape.{pin_wire, table_wire, ends_of, pins_of, crosses_of, IsLine, IsPort, IsAbove}
use Rattle.machine_meaning.specs.Faults.{Faults, stuck_wire, stuck_cross, wrong_cell, stuck_register}
use Rattle.machine_meaning.specs.Joined.{Shorted}

-- not stuck, and shorted to itself alone
pub record IsSoundWire (m : Shape) (f : Faults) (w : ℕ) : Type 0 where
  pub not_stuck : stuck_wire f w ≡ None
  pub alone : (u : ℕ) → Shorted m f w u → u ≡ w

pub record IsSoundCross (m : Shape) (f : Faults) (x : ℕ) : Type 0 where
  pub not_stuck : stuck_cross f x ≡ None
  pub tap : IsSoundWire m f (ends_of m x).0
  pub line : IsSoundWire m f (ends_of m x).1

pub record IsSoundTable (m : Shape) (f : Faults) (t : ℕ) : Type 0 where
  pub cells : (a : ℕ) → a < 64 → wrong_cell f t a ≡ None
  pub register : stuck_register f t ≡ None
  pub pins : (k : ℕ) → k < 7 → IsSoundWire m f (table_wire m t k)

-- a line that is sound, and none of whose crosspoints is stuck
pub record IsWholeLine (m : Shape) (f : Faults) (line : ℕ) : Type 0 where
  pub sound : IsSoundWire m f line
  pub crosses : (x : ℕ) → x < crosses_of m → (ends_of m x).1 ≡ line → stuck_cross f x ≡ None

-- two different numbers have P
pub record HasTwo (P : ℕ → Type 0) : Type 0 where
  pub one : ℕ
  pub two : ℕ
  pub different : one ≢ two
  pub first : P one
  pub second : P two

-- The machine has two sound pins. The node and each above it has two whole lines, and below the root two
-- sound ports.
pub record IsServed (m : Shape) (f : Faults) (n : ℕ) : Type 0 where
  pub pins : HasTwo (λ k. (k < pins_of m) × IsSoundWire m f (pin_wire m k))
  pub lines : (k : ℕ) → IsAbove m k n → HasTwo (λ w. IsLine m k w × IsWholeLine m f w)
  pub ports : (k : ℕ) → IsAbove m k n → k ≢ 0 → HasTwo (λ w. IsPort m k w × IsSoundWire m f w)
