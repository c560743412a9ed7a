use Rattle.rig_port.proofs.Vocabulary.{◌≡◌, ◌∙◌, sym, subst, IfSome, Shape, Configuration, IsPosted, SetsAnew}
use Rattle.rig_port.proofs.port_board.post.Goals as goal

pub shorten-requires : goal.shorten-requires
shorten-requires c =
    subst (λ w. SetsAnew c.spell_anew.new.set.config w) (sym c.deref.ensures.value)
    (subst (λ (s : Configuration). SetsAnew s c.spell_anew.new.whole.items) (sym c.in_ok-spell_anew.ensures.made) c.in_ok-spell_anew.ensures.anew)

pub returns-clause-linked : goal.returns-clause-linked
returns-clause-linked c = λ device shape was.
    let same = c.in_ok-add_edits.ensures.shape ∙ c.in_ok-begin.ensures.shape in
    let at = c.in_ok-add_edits.ensures.made ∙ sym c.in_ok-spell_anew.ensures.made in
    let posted = subst (λ (s : Configuration). IsPosted device s c.add_edits.new.link.line.items c.add_edits.new.link.anew) at
    (c.in_ok-add_edits.ensures.posted device (c.in_ok-begin.ensures.posted device shape was)) in
    let shape_too = subst (λ (m : Shape). IfSome device (λ d. d.shape ≡ m)) (sym (c.in_ok-spell_anew.ensures.shape ∙ same)) shape in
    subst (λ l. IsPosted device c.shorten.new.link.set.config l c.shorten.new.link.anew) (sym c.reserve.ensures.items) (c.in_ok-shorten.ensures.posted device shape_too posted)
