use Rattle.std.proofs.Common.{◌∙◌}
use Rattle.diag_evidence.proofs.KeptLemmas.{has_register}
use Rattle.diag_evidence.proofs.facts.Facts.keeps_register.Goals as goal

pub returns : goal.returns
returns c = rw (← c.self.view_is) (c.has.ensures ∙ has_register _ c.args.t.0)
