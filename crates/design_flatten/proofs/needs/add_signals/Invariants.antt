use Rattle.design_flatten.proofs.Vocabulary.{map, take, [], get_or, HasTaken}
use Rattle.design_flatten.proofs.needs.add_signals.Given as goal

abbrev pub invariant-signals : goal.invariant-signals
invariant-signals l = HasTaken l.fn.marked (map (λ s. get_or l.fn.marked.names.now s []) (take l.signal-index l.signals)) l.marked
