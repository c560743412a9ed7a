use Rattle.map_network.proofs.Vocabulary.{ap, ◌∙◌, sym, arith, fits, cell_at}
use Rattle.map_network.proofs.CellLemmas.{cell_not, cell_ones}
use Rattle.map_network.proofs.cells.lit_mask.Goals as goal

pub returns-in-Zero : goal.returns-in-Zero
returns-in-Zero c = λ a la. cell_not c.args.mask a (omega arith) la ∙ sym (ap (λ l. fits l (cell_at c.args.mask a)) c.in-Zero.is)

pub returns-in-Any : goal.returns-in-Any
returns-in-Any c = λ a la. cell_ones a la ∙ sym (ap (λ l. fits l (cell_at c.args.mask a)) c.in-Any.is)
