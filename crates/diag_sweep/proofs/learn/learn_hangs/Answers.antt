use Rattle.diag_sweep.proofs.Going.{grows_itself, grows_then}
use Rattle.diag_sweep.proofs.learn.learn_hangs.Goals as goal

pub hangs-init : goal.hangs-init
hangs-init c = record { known = c.requires.known; grows = grows_itself c.args.field.now c.args.known.now.steps }

pub hangs-preserved : goal.hangs-preserved
hangs-preserved c = record { known = c.learn_hung.ensures.known; grows = grows_then c.hangs.invariant.grows c.learn_hung.ensures.grows }

pub returns-in_err-learn_hung-clause-grows : goal.returns-in_err-learn_hung-clause-grows
returns-in_err-learn_hung-clause-grows c = grows_then c.hangs.invariant.grows c.learn_hung.ensures.grows
