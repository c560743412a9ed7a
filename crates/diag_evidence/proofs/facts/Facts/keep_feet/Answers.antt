use Rattle.diag_evidence.proofs.Sighted.{gains_on}
use Rattle.diag_evidence.proofs.facts.Facts.keep_feet.Goals as goal

pub returns : goal.returns
returns c = rw (← c.self.view_is) (gains_on _ c.args.forest.now c.args.feet.now c.args.reads.now.rows _ _ c.mark_crosses.ensures.marked c.mark_swinging_feet.ensures.marked)
