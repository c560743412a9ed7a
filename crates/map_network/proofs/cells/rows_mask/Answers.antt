use Rattle.map_network.proofs.Vocabulary.{ap, ◌∙◌, matches, masks_at}
use Rattle.map_network.proofs.CellLemmas.{rows_more, rows_end}
use Rattle.map_network.proofs.cells.rows_mask.Goals as goal

pub rows-preserved : goal.rows-preserved
rows-preserved c = λ a la. rows_more c.args.rows.now (masks_at c.args.masks.now a) c.rows.k c.rows.cells c.row_mask-cells.result a c.index-rows-k.result c.rows-test.true (c.row_mask-cells.ensures a la ∙ ap (λ r. matches r (masks_at c.args.masks.now a)) (c.as_slice.ensures ∙ c.index-rows-k.is)) (c.rows.invariant a la)

pub returns : goal.returns
returns c = λ a la. rows_end c.args.rows.now (masks_at c.args.masks.now a) c.rows.k c.rows.cells a c.rows-test.false (c.rows.invariant a la)
