use Rattle.map_search.proofs.narrow.+literal_to.Given as goal

abbrev pub decreases-literal_to : goal.decreases-literal_to
decreases-literal_to l = l.splits
