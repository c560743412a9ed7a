use Rattle.map_network.proofs.CellLemmas.{some_more, some_ends}
use Rattle.map_network.proofs.cells.some_met.Goals as goal

pub wants-preserved : goal.wants-preserved
wants-preserved c = λ a la. some_more c.args.wants.now a c.requires la c.wants.k c.wants.cells c.pin_mask.result c.lit_mask-cells.result _ c.wants-test.true c.pin_mask.ensures c.lit_mask-cells.ensures (c.wants.invariant a la)

pub returns : goal.returns
returns c = λ a la. some_ends c.args.wants.now a c.requires la c.wants.k c.wants.cells c.wants-test.false (c.wants.invariant a la)
