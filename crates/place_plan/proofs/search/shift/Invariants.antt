use Rattle.place_plan.specs.Search.{IsShiftingFor}
use Rattle.place_plan.proofs.search.shift.Given as goal

abbrev pub invariant-loop-h : goal.invariant-loop-h
invariant-loop-h l = IsShiftingFor l.steps l.from l.line l.fn.owners l.owners l.h l.free

abbrev pub decreases-loop-h : goal.decreases-loop-h
decreases-loop-h l = l.h
