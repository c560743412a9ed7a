use Rattle.std.proofs.Common.{arith}
use Rattle.machine_defects.proofs.Counting.{count_at_most}
use Rattle.machine_defects.proofs.counts.free_pins.Goals as goal

pub overflow_add-count : goal.overflow_add-count
overflow_add-count c = let h = count_at_most _ _ _ c.pins.invariant in omega (arith, h)
