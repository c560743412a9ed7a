use Rattle.design_flatten.proofs.Vocabulary.{◌≡◌, drop, with_signals}
use Rattle.design_flatten.proofs.signals.Signals.add_all.Given as goal

abbrev pub invariant-signals : goal.invariant-signals
invariant-signals l = with_signals l.self (drop l.signal-index l.signals) ≡ with_signals l.initial.self l.signals
