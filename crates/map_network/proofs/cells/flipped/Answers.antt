use Rattle.map_network.proofs.Vocabulary.{ap, ◌∙◌, sym, arith, flip, cell_at}
use Rattle.map_network.proofs.CellLemmas.{cell_not}
use Rattle.map_network.proofs.cells.flipped.Goals as goal

pub returns-then-off : goal.returns-then-off
returns-then-off c = λ a la. cell_not c.args.cells a (omega arith) la ∙ sym (ap (λ b. flip b (cell_at c.args.cells a)) c.if-off.true)
