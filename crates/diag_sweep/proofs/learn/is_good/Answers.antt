use Rattle.diag_sweep.proofs.Vocabulary.{◌∙◌, sym, good_of}
use Rattle.diag_sweep.proofs.learn.is_good.Goals as goal

pub returns : goal.returns
returns c = λ yes. good_of c.requires.known c.requires.new (sym c.keeps_wire.ensures ∙ c.if-not-keeps_wire.false) (sym c.is_apart.ensures ∙ yes)
