use Rattle.place_plan.specs.Search.{ArePicks}
use Rattle.place_plan.proofs.assign.holds.Given as goal

abbrev pub invariant-loop-j : goal.invariant-loop-j
invariant-loop-j l = ArePicks l.lines l.owners l.holds.items l.j
