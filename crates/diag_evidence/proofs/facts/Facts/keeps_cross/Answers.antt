use Rattle.std.proofs.Common.{◌∙◌}
use Rattle.diag_evidence.proofs.KeptLemmas.{has_cross}
use Rattle.diag_evidence.proofs.facts.Facts.keeps_cross.Goals as goal

pub returns : goal.returns
returns c = rw (← c.self.view_is) (c.has.ensures ∙ has_cross _ c.args.c.0)
