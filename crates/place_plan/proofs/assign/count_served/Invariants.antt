use Rattle.place_plan.proofs.Vocabulary.{◌≡◌, take, count_by, serves_any, serves_by}
use Rattle.place_plan.proofs.assign.count_served.Given as goal

abbrev pub invariant-loop-line : goal.invariant-loop-line
invariant-loop-line l = l.count ≡ count_by (serves_any (serves_by l.defects l.asks) l.set) (take l.line-index l.lines)
