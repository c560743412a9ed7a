use Rattle.design_eval.proofs.Vocabulary.{sym, ◌∙◌, all-bits, no-bit}
use Rattle.design_eval.proofs.table_word.whole_word.Goals as goal

pub returns-then-bit : goal.returns-then-bit
returns-then-bit c = λ j lj. all-bits j lj ∙ sym c.if-bit.true

pub returns-else-bit : goal.returns-else-bit
returns-else-bit c = λ j lj. no-bit j ∙ sym c.if-bit.false
