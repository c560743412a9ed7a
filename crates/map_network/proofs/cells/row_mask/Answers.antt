use Rattle.map_network.proofs.Vocabulary.{◌&&◌, ap, matches, masks_at}
use Rattle.map_network.proofs.CellLemmas.{row_more, row_ends, cell_ones}
use Rattle.map_network.proofs.cells.row_mask.Goals as goal

pub places-init : goal.places-init
places-init c = λ a la. ap (λ b. b && matches c.args.row.now (masks_at c.args.masks.now a)) (cell_ones a la)

pub places-preserved : goal.places-preserved
places-preserved c = λ a la. row_more c.args.row.now c.args.masks.now a c.requires c.places.k c.places.cells c.lit_mask-cells.result _ c.places-test.true (c.lit_mask-cells.ensures a la) (c.places.invariant a la)

pub returns : goal.returns
returns c = λ a la. row_ends c.args.row.now c.args.masks.now a c.requires c.places.k c.places.cells c.places-test.false (c.places.invariant a la)
