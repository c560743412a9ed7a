-- The limits that go by the shape.
use Rattle.std.specs.Prelude.{ℕ, ◌≤◌, if◌then◌else◌}
use Rattle.machine_shape.specs.{declared.Shape.Shape, Limits.is_small}

-- ticks of a cycle, and tables that an image switches on
unfoldable pub most_ticks : Shape → ℕ
most_ticks m = if is_small m.counts then 4096 else 65535

-- crosspoints that an image closes, and those of an image that is repaired
unfoldable pub most_closed : Shape → ℕ
most_closed m = if is_small m.counts then 1048576 else 3670016

unfoldable pub most_repaired : Shape → ℕ
most_repaired m = if is_small m.counts then 1000000 else 1048576

-- faults of a set, and bytes of a text of faults or of defects
unfoldable pub most_faults : Shape → ℕ
most_faults m = if is_small m.counts then 65536 else 16777216

unfoldable pub most_text : Shape → ℕ
most_text m = if is_small m.counts then 16777216 else 1073741824

-- each is at least that of small shapes, and at most that of the others
pub record HasHighLimits (m : Shape) : Type 0 where
  pub ticks : (4096 ≤ most_ticks m) × (most_ticks m ≤ 65535)
  pub closed : (1048576 ≤ most_closed m) × (most_closed m ≤ 3670016)
  pub repaired : (1000000 ≤ most_repaired m) × (most_repaired m ≤ 1048576)
  pub faults : (65536 ≤ most_faults m) × (most_faults m ≤ 16777216)
  pub text : (16777216 ≤ most_text m) × (most_text m ≤ 1073741824)
