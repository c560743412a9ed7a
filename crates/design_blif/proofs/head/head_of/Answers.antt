use Rattle.std.proofs.Common.{◌∙◌, sym}
use Rattle.design_blif.proofs.HeadLemmas.{row_head}
use Rattle.design_blif.proofs.head.head_of.Goals as goal

pub returns-else-first_byte-eq46 : goal.returns-else-first_byte-eq46
returns-else-first_byte-eq46 c = sym (row_head c.args.word.now (λ e. c.if-first_byte-eq46.false (c.first_byte.ensures ∙ e)))
