use Rattle.diag_growth.proofs.Vocabulary.{sym, ◌∙◌}
use Rattle.diag_growth.proofs.Remaining.{done_by}
use Rattle.diag_growth.proofs.rest.is_done.Goals as goal

pub returns : goal.returns
returns c = λ yes. done_by c.requires.shape c.ends.ensures.ends (sym c.keeps_cross.ensures ∙ c.if-not-keeps_cross.false) (c.has.ensures.known c.if-not-has.false) (c.has-2.ensures.known yes)
