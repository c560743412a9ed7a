use Rattle.design_flatten.proofs.Vocabulary.{get_or, [], take_more}
use Rattle.design_flatten.proofs.MarkLemmas.{taken_next}
use Rattle.design_flatten.proofs.needs.add_signals.Goals as goal

pub signals-preserved : goal.signals-preserved
signals-preserved c =
    taken_next (λ names s. get_or names s []) c.args.signals.now c.signals.signal-index (get_or c.args.signals.now c.signals.signal-index 0) c.args.marked.now c.signals.marked c.add_signal.new.marked
    (take_more c.args.signals.now c.signals.signal-index 0 c.signals-test.true) c.signals.invariant c.in_ok-add_signal.ensures
