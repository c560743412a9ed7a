use Rattle.design_flatten.proofs.Vocabulary.{◌∙◌, sym, ap, signal_number}
use Rattle.design_flatten.proofs.SignalsLemmas.{absent_number}
use Rattle.design_flatten.proofs.signals.Signals.number.Goals as goal

pub returns-in-None : goal.returns-in-None
returns-in-None c = c.len.ensures.len ∙ absent_number c.args.signal c.self.inside.set.keys (sym c.in-None.ensures.index) ∙ ap (λ ss. signal_number ss c.args.signal) c.self.view_is
