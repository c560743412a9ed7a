use Rattle.std.proofs.Common.{sym, ◌∙◌}
use Rattle.map_network.proofs.CellLemmas.{cell_ones}
use Rattle.map_network.proofs.composing.whole_word.Goals as goal

pub returns-then-bit : goal.returns-then-bit
returns-then-bit c = λ a la. cell_ones a la ∙ sym c.if-bit.true
