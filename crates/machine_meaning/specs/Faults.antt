-- A machine's faults, each place with at most one.
use Rattle.std.specs.Prelude.{◌≡◌, ◌≢◌, ℕ, ◌<◌, Bool, true, false, Option, None, IsSome}
use Rattle.std.specs.{Ordering.nat_cmp, Ordering.ordering_then, declared.cmp.Ordering.Ordering}
use Rattle.std.specs.FinSet as set
use Rattle.std.specs.FinMap as map
use Rattle.machine_shape.specs.{declared.Shape.Shape, Shape.wires_of, Shape.crosses_of, Shape.tables_of}

-- by the first number, and then by the second
abbrev pub pair_cmp : ℕ × ℕ → ℕ × ℕ → Ordering
pair_cmp p q = ordering_then (nat_cmp p.0 q.0) (nat_cmp p.1 q.1)

pub record Faults : Type 0 where
  -- the value at which a wire is stuck
  pub wires : map.FinMap nat_cmp Bool
  -- whether a stuck crosspoint is closed
  pub crosses : map.FinMap nat_cmp Bool
  -- what a wrong cell gives, by table and address
  pub cells : map.FinMap pair_cmp Bool
  -- what a stuck register holds, by table
  pub registers : map.FinMap nat_cmp Bool
  -- pairs of wires
  pub bridges : set.FinSet pair_cmp

abbrev pub stuck_wire : Faults → ℕ → Option Bool
stuck_wire f w = map.get f.wires w

abbrev pub stuck_cross : Faults → ℕ → Option Bool
stuck_cross f x = map.get f.crosses x

abbrev pub wrong_cell : Faults → ℕ → ℕ → Option Bool
wrong_cell f t a = map.get f.cells (t, a)

abbrev pub stuck_register : Faults → ℕ → Option Bool
stuck_register f t = map.get f.registers t

abbrev pub is_bridge : Faults → ℕ × ℕ → Bool
is_bridge f p = set.contains f.bridges p

-- the faults are those of a machine of this shape, and no wire is bridged to itself
pub record AreFaultsOf (m : Shape) (f : Faults) : Type 0 where
  pub wires : (w : ℕ) → IsSome (stuck_wire f w) → w < wires_of m
  pub crosses : (x : ℕ) → IsSome (stuck_cross f x) → x < crosses_of m
  pub cells : (t a : ℕ) → IsSome (wrong_cell f t a) → (t < tables_of m) × (a < 64)
  pub registers : (t : ℕ) → IsSome (stuck_register f t) → t < tables_of m
  pub bridges : (w u : ℕ) → is_bridge f (w, u) ≡ true → (w < wires_of m) × (u < wires_of m) × (w ≢ u)

-- no fault at all
pub record IsFaultless (f : Faults) : Type 0 where
  pub wires : (w : ℕ) → stuck_wire f w ≡ None
  pub crosses : (x : ℕ) → stuck_cross f x ≡ None
  pub cells : (t a : ℕ) → wrong_cell f t a ≡ None
  pub registers : (t : ℕ) → stuck_register f t ≡ None
  pub bridges : (p : ℕ × ℕ) → is_bridge f p ≡ false
