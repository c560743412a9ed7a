use Rattle.map_network.specs.Levels.{IsSearching, StaysSeen, work_of}
use Rattle.map_network.proofs.longest.run.Given as goal

abbrev pub invariant-steps : goal.invariant-steps
invariant-steps l = record { searching : IsSearching l.network l.search; seen : StaysSeen l.fn.search.marks.items l.search.marks.items }

abbrev pub decreases-steps : goal.decreases-steps
decreases-steps l = work_of l.search.marks.items
