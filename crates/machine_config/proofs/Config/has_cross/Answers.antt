use Rattle.machine_config.proofs.Vocabulary.{ap, ◌∙◌, sym, is_closed}
use Rattle.machine_config.proofs.Members.{contains_marked}
use Rattle.machine_config.proofs.Config.has_cross.Goals as goal

pub returns : goal.returns
returns c =
    c.has.ensures
    ∙ sym (contains_marked c.self.inside.marks c.self.inside.closed.items c.self.invariant.marked c.args.c.0)
    ∙ ap (λ r. is_closed r.config c.args.c.0) c.self.view_is
