use Rattle.map_network.specs.Joining.{DoesSame}
use Rattle.map_network.proofs.spread.spread_rounds.Given as goal

abbrev pub invariant-rounds : goal.invariant-rounds
invariant-rounds l = DoesSame l.fn.network l.spread
