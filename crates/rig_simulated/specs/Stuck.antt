-- The crosspoints that are stuck.
use Rattle.std.specs.Prelude.{◌≡◌, ℕ, ◌<◌, Bool, is_some, List, length}
use Rattle.machine_shape.specs.{declared.Shape.Shape, Shape.crosses_of}
use Rattle.machine_meaning.specs.Faults.{Faults, stuck_cross}
use Rattle.base_bits.specs.Numbers.{has_number}

-- of the machine's crosspoints these are stuck
pub record AreStuck (m : Shape) (f : Faults) (marks : List Bool) : Type 0 where
  pub len : length marks ≡ crosses_of m
  pub each : (x : ℕ) → x < crosses_of m → has_number marks x ≡ is_some (stuck_cross f x)
