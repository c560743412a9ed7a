use Rattle.map_network.proofs.Vocabulary.{Bool, ap, ◌∙◌, map, arith, cell_at, six_bits, number, address_by, bit_with, joined_truth}
use Rattle.map_network.proofs.CellLemmas.{cells_are, cell_ones}
use Rattle.map_network.proofs.composing.joined_cells.Goals as goal

pub returns : goal.returns
unfolding joined_truth
returns c = cells_are c.word_of.result (joined_truth (map number c.args.ins.now) c.args.table c.args.inner.now c.args.reader.now) (omega arith) (λ a la.
    c.word_of.ensures a la
    ∙ ap (λ (g : Bool). cell_at c.args.reader.now.cells (address_by (bit_with (map number c.args.ins.now) (six_bits a) c.args.table g) c.args.reader.now.ins))
    (c.word_of-given.ensures a la
    ∙ ap (λ (g : Bool). cell_at c.args.inner.now.cells (address_by (bit_with (map number c.args.ins.now) (six_bits a) c.args.table g) c.args.inner.now.ins)) (cell_ones a la)))
