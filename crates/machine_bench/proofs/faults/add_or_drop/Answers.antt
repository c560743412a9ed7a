use Rattle.machine_bench.specs.Faults.{added, refused}
use Rattle.machine_bench.proofs.faults.add_or_drop.Goals as goal

pub returns-in-Ok-clause-dropped : goal.returns-in-Ok-clause-dropped
returns-in-Ok-clause-dropped c = rw c.in-Ok.ensures.ok (added c.in-Ok.ensures.free)

pub returns-in-Err-Same-clause-dropped : goal.returns-in-Err-Same-clause-dropped
returns-in-Err-Same-clause-dropped c = rw c.in-Err-Same.ensures.err (refused _ (rw c.in-Err-Same.field-0-is at c.in-Err-Same.ensures.refused))

pub returns-in-Err-Doubled-clause-dropped : goal.returns-in-Err-Doubled-clause-dropped
returns-in-Err-Doubled-clause-dropped c = rw c.in-Err-Doubled.ensures.err (refused _ (rw c.in-Err-Doubled.field-0-is at c.in-Err-Doubled.ensures.refused))

pub returns-in-Err-Against-clause-dropped : goal.returns-in-Err-Against-clause-dropped
returns-in-Err-Against-clause-dropped c = rw c.in-Err-Against.ensures.err (refused _ (rw c.in-Err-Against.field-0-is at c.in-Err-Against.ensures.refused))

pub returns-in-Err-Limit-clause-dropped : goal.returns-in-Err-Limit-clause-dropped
returns-in-Err-Limit-clause-dropped c = rw c.in-Err-Limit.ensures.err (refused _ (rw c.in-Err-Limit.field-0-is at c.in-Err-Limit.ensures.refused))
