use Rattle.map_eval.proofs.Vocabulary.{ap, ◌∙◌, sym, arith, flip, cell_at, cell_not}
use Rattle.map_eval.proofs.refreshing.mask_of.Goals as goal

pub returns-then-value : goal.returns-then-value
returns-then-value c = λ a la. cell_not c.args.cells a (omega arith) la ∙ sym (ap (λ b. flip b (cell_at c.args.cells a)) c.if-value.true)
