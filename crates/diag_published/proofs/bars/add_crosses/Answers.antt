use Rattle.std.proofs.Common.{arith}
use Rattle.diag_published.proofs.Fielding.{crosses_got}
use Rattle.diag_published.proofs.bars.add_crosses.Goals as goal

pub add_range-requires-clause-ordered : goal.add_range-requires-clause-ordered
add_range-requires-clause-ordered c = let first = c.first_cross-first.ensures in let end = c.end_of_bar-end.ensures.end in omega (arith, first, end)

pub add_range-requires-clause-within : goal.add_range-requires-clause-within
add_range-requires-clause-within c = let end = c.end_of_bar-end.ensures.within in let len = c.requires.crosses in omega (arith, end, len)

pub returns : goal.returns
returns c = crosses_got c.args.shape.now (c.the_laws_hold.ensures c.args.shape.now) c.args.node.0 c.first_cross-first.result c.end_of_bar-end.result c.first_cross-first.ensures c.end_of_bar-end.ensures.end c.add_range.ensures
