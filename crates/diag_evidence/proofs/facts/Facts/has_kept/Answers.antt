use Rattle.std.proofs.Common.{◌∙◌, sym}
use Rattle.diag_evidence.proofs.KeptLemmas.{has_cross}
use Rattle.diag_evidence.proofs.facts.Facts.has_kept.Goals as goal

pub returns : goal.returns
returns c = rw (← c.self.view_is) (λ yes. sym (c.has.ensures ∙ has_cross _ c.args.c.0) ∙ yes)
