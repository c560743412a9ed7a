use Rattle.std.proofs.Common.{◌∙◌}
use Rattle.diag_evidence.proofs.KeptLemmas.{has_apart}
use Rattle.diag_evidence.proofs.facts.Facts.is_apart.Goals as goal

pub returns : goal.returns
returns c = rw (← c.self.view_is) (c.has.ensures ∙ has_apart _ c.args.w.0)
