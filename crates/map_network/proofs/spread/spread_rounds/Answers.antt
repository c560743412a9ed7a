use Rattle.map_network.proofs.SpreadLemmas.{rounds_on}
use Rattle.map_network.proofs.spread.spread_rounds.Goals as goal

pub returns-then-as_slice-before : goal.returns-then-as_slice-before
returns-then-as_slice-before c = rounds_on c.args.network c.rounds.spread c.in_ok-used.used c.in_ok-spread.spread c.rounds.invariant (c.in_ok-used.ensures {u = tt}) (c.in_ok-spread.ensures {u = tt})

pub rounds-preserved : goal.rounds-preserved
rounds-preserved c = rounds_on c.args.network c.rounds.spread c.in_ok-used.used c.in_ok-spread.spread c.rounds.invariant (c.in_ok-used.ensures {u = tt}) (c.in_ok-spread.ensures {u = tt})
