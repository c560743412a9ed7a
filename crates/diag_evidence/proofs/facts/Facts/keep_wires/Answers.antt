use Rattle.diag_evidence.proofs.KeptLemmas.{gains_wires}
use Rattle.diag_evidence.proofs.facts.Facts.keep_wires.Goals as goal

pub returns : goal.returns
returns c = rw (← c.self.view_is) (gains_wires _ c.args.route.now.wires _ c.mark_wires.ensures.marked)
