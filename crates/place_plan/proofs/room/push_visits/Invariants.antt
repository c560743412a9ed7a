use Rattle.place_plan.proofs.Vocabulary.{◌≡◌, ◌++◌, map, take, visit_by}
use Rattle.place_plan.proofs.room.push_visits.Given as goal

abbrev pub invariant-loop-hold : goal.invariant-loop-hold
invariant-loop-hold l = l.visits.items ≡ l.fn.visits.items ++ map (visit_by l.node l.asks) (take l.hold-index l.holds)
