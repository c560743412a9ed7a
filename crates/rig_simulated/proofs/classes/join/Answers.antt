use Rattle.std.proofs.Common.{◌≢◌, ◌∙◌, sym}
use Rattle.rig_simulated.proofs.{Joining.tied_roots, Joining.same_knots, Undoing.tie_hung}
use Rattle.rig_simulated.proofs.classes.join.Goals as goal

pub returns-then-root-other-clause-joined : goal.returns-then-root-other-clause-joined
returns-then-root-other-clause-joined c = λ old new stuck most t link.
    let apart : c.root_of-root.result ≢ c.root_of-other.result = c.if-root-other.true in
    tied_roots t link (c.root_of-root.ensures.root most t.root t.knots_are.roots) (c.root_of-other.ensures.root most t.root t.knots_are.roots)
    c.root_of-root.ensures.within c.root_of-other.ensures.within c.root_of-root.ensures.top c.root_of-other.ensures.top apart (tie_hung c.tie_of-tie.ensures.tie c.hang.new.knots c.hang.ensures)

pub returns-else-root-other-clause-joined : goal.returns-else-root-other-clause-joined
returns-else-root-other-clause-joined c = λ old new stuck most t link.
    record { root = t.root; knots_are = same_knots t.knots_are link (sym (c.root_of-root.ensures.root most t.root t.knots_are.roots) ∙ c.if-root-other.false ∙ c.root_of-other.ensures.root most t.root t.knots_are.roots) }
