use Rattle.map_network.proofs.Vocabulary.{◌&&◌, ap, every, met, six_bits}
use Rattle.map_network.proofs.CellLemmas.{all_more, all_ends, cell_ones}
use Rattle.map_network.proofs.cells.all_met.Goals as goal

pub wants-init : goal.wants-init
wants-init c = λ a la. ap (λ b. b && every (met c.args.wants.now (six_bits a))) (cell_ones a la)

pub wants-preserved : goal.wants-preserved
wants-preserved c = λ a la. all_more c.args.wants.now a c.requires la c.wants.k c.wants.cells c.pin_mask.result c.lit_mask-cells.result _ c.wants-test.true c.pin_mask.ensures c.lit_mask-cells.ensures (c.wants.invariant a la)

pub returns : goal.returns
returns c = λ a la. all_ends c.args.wants.now a c.requires la c.wants.k c.wants.cells c.wants-test.false (c.wants.invariant a la)
