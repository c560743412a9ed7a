use Rattle.place_plan.proofs.Vocabulary.{range_with_len, serves_by, IsPartial}
use Rattle.place_plan.proofs.assign.assign_anew.Given as goal

abbrev pub invariant-loop-k : goal.invariant-loop-k
invariant-loop-k l = IsPartial (serves_by l.defects l.asks) l.lines (range_with_len 0 l.k) l.owners.items
