use Rattle.map_network.proofs.Vocabulary.{ap, ◌∙◌, arith, flip, pin_named, masks_at}
use Rattle.design_netlist.specs.Covers.{truth, some_matches}
use Rattle.map_network.proofs.CellLemmas.{cells_are}
use Rattle.map_network.proofs.cells.cover_cells.Goals as goal

pub returns : goal.returns
returns c = cells_are c.flipped.result (λ pins. truth (pin_named c.args.names.now pins) c.args.cover.now) (omega arith) (λ a la.
    c.flipped.ensures a la
    ∙ ap (λ b. flip c.args.cover.now.off b) (c.rows_mask.ensures a la)
    ∙ ap (λ rows. flip c.args.cover.now.off (some_matches rows (masks_at c.args.masks.now a))) c.as_slice.ensures
    ∙ ap (λ bits. flip c.args.cover.now.off (some_matches c.args.cover.now.rows bits)) (c.requires.masks a la))
