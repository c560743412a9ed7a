use Rattle.std.proofs.Common.{◌∙◌}
use Rattle.diag_evidence.proofs.KeptLemmas.{has_wire}
use Rattle.diag_evidence.proofs.facts.Facts.keeps_wire.Goals as goal

pub returns : goal.returns
returns c = rw (← c.self.view_is) (c.has.ensures ∙ has_wire _ c.args.w.0)
