use Rattle.design_flatten.proofs.Vocabulary.{◌<◌, arith, length, drop, drop-cons, err_from_is_err_and}
use Rattle.design_flatten.proofs.SignalsLemmas.{past_more}
use Rattle.design_flatten.proofs.signals.Signals.add_all.Goals as goal

pub returns-in_err-add-clause-refused : goal.returns-in_err-add-clause-refused
returns-in_err-add-clause-refused c =
    let p = err_from_is_err_and c.from_residual.result c.from_residual.ensures.1 in
    let lt : c.signals.signal-index < length c.args.signals.now = omega arith in
    rw (p.1, p.2) (past_more c.in_err-add.field-0.0 c.signals.self c.args.self.now c.args.signals.now _ _ (drop c.signals.signal-index c.args.signals.now) c.signals.invariant (drop-cons c.args.signals.now c.signals.signal-index _ lt) c.in_err-add.ensures.refused)
