use Rattle.design_netlist.proofs.Vocabulary.{length, StaysSeen, IsSearching, left_of}
use Rattle.design_netlist.proofs.search.run.Given as goal

abbrev pub invariant-steps : goal.invariant-steps
invariant-steps l = record { searching : IsSearching l.covers l.search (length l.covers); seen : StaysSeen l.fn.search.states.items l.search.states.items }

abbrev pub decreases-steps : goal.decreases-steps
decreases-steps l = left_of l.covers l.search
