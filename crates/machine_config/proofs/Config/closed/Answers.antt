use Rattle.machine_config.proofs.Vocabulary.{ap, ◌∙◌, sym, is_closed, times, once_if}
use Rattle.machine_config.proofs.Members.{contains_marked}
use Rattle.machine_config.proofs.Config.closed.Goals as goal

pub returns : goal.returns
returns c = λ x.
    ap (times x) c.deref.ensures.value ∙ c.self.invariant.marked x
    ∙ ap once_if (sym (contains_marked c.self.inside.marks c.self.inside.closed.items c.self.invariant.marked x) ∙ ap (λ r. is_closed r.config x) c.self.view_is)
