use Rattle.diag_evidence.proofs.Sighted.{gains_seen}
use Rattle.diag_evidence.proofs.facts.Facts.keep_seen.Goals as goal

pub returns : goal.returns
returns c = rw (← c.self.view_is) (gains_seen _ c.args.forest.now c.args.reads.now.rows _ _ c.mark_swinging.ensures.marked c.mark_joined_pins.ensures.marked)
