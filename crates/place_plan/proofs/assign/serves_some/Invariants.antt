use Rattle.place_plan.proofs.Vocabulary.{◌≡◌, false, take, serves_any, serves_by}
use Rattle.place_plan.proofs.assign.serves_some.Given as goal

abbrev pub invariant-loop-k : goal.invariant-loop-k
invariant-loop-k l = serves_any (serves_by l.defects l.asks) (take l.k-index l.set) l.line ≡ false
