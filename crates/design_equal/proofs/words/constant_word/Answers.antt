use Rattle.design_equal.proofs.Vocabulary.{sym, ◌∙◌, all-bits}
use Rattle.design_equal.proofs.words.constant_word.Goals as goal

pub returns-then-bit : goal.returns-then-bit
returns-then-bit c = λ lane ll. all-bits lane ll ∙ sym c.if-bit.true
