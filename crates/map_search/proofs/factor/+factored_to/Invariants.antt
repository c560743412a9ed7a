use Rattle.map_search.proofs.factor.+factored_to.Given as goal

abbrev pub decreases-factored_to : goal.decreases-factored_to
decreases-factored_to l = l.depth
