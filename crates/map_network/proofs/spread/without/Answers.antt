use Rattle.std.proofs.Common.{subst, arith}
use Rattle.map_network.proofs.SpreadLemmas.{spread_less}
use Rattle.map_network.proofs.spread.without.Goals as goal

pub returns : goal.returns
returns c =
    let closed = c.is_closed.ensures c.if-not-is_closed.false in
    let some = c.is_some_marked.ensures.some c.if-not-is_some_marked.false in
    spread_less c.args.network c.in_ok-smaller.smaller c.args.marks.now c.requires closed (c.in_ok-smaller.ensures {u = tt}) some.0 (omega (arith, some.1, closed.len)) some.2
