-- When a list has a load left.
use Rattle.std.specs.Prelude.{◌≢◌, ℕ, ◌+◌, ◌*◌, ◌<◌}
use Rattle.machine_shape.specs.{declared.Shape.Shape, Shape.wires_of, Shape.crosses_of, Shape.tables_of}

-- A list that was begun when the rig counted so many loads has one left, when it counts so many: it took fewer than it may take, and not
-- just as many as it may take of a machine without faults
pub record HasLoadLeft (m : Shape) (before now : ℕ) : Type 0 where
  pub always : now < before + (16 * crosses_of m + (20 * wires_of m + 130 * tables_of m))
  pub faultless : now ≢ before + (2 * crosses_of m + (3 * wires_of m + 130 * tables_of m))
