use Rattle.diag_published.proofs.Fielding.{taps_are, lines_are}
use Rattle.diag_published.proofs.bars.bar_of.Goals as goal

pub returns-clause-bar : goal.returns-clause-bar
returns-clause-bar c = record {
  taps = taps_are c.args.shape.now (c.the_laws_hold.ensures c.args.shape.now) c.args.node.0 _ c.requires c.in_ok-taps_in.ensures.taps;
  lines = lines_are c.args.shape.now (c.the_laws_hold.ensures c.args.shape.now) c.args.node.0 _ c.requires c.in_ok-lines_in.ensures.lines;
}
