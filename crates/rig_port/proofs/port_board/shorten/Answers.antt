use Rattle.rig_port.proofs.Vocabulary.{◌∙◌, ◌++◌, sym, ap, subst, true, IsPosted}
use Rattle.rig_port.proofs.Resumed.{posted_whole}
use Rattle.rig_port.proofs.port_board.shorten.Goals as goal

pub returns-clause-posted : goal.returns-clause-posted
returns-clause-posted c = λ device shape _.
    subst (λ l. IsPosted device c.args.link.now.set.config l true) (sym (c.in_ok-extend_from_slice.ensures.items ∙ ap (λ l. l ++ c.args.whole.now) c.clear.ensures.items))
    (posted_whole device c.args.link.now.set.config c.args.whole.now shape c.requires)
