use Rattle.diag_sweep.proofs.Going.{grows_itself, grows_then}
use Rattle.diag_sweep.proofs.learn.learn_pins.Goals as goal

pub pins-init : goal.pins-init
pins-init c = record { known = c.requires.known; grows = grows_itself c.args.field.now c.args.known.now.steps }

pub pins-preserved : goal.pins-preserved
pins-preserved c = record { known = c.learn_pin.ensures.known; grows = grows_then c.pins.invariant.grows c.learn_pin.ensures.grows }

pub returns-in_err-learn_pin-clause-grows : goal.returns-in_err-learn_pin-clause-grows
returns-in_err-learn_pin-clause-grows c = grows_then c.pins.invariant.grows c.learn_pin.ensures.grows
