use Rattle.rig_doubled.proofs.Vocabulary.{◌∙◌, ap, take, get_or, take_more, Cross, Configuration, with_closed}
use Rattle.rig_doubled.proofs.Copying.{set_more}
use Rattle.rig_doubled.proofs.copied.close_all.Goals as goal

abbrev none : Cross
none = record { 0 = 0 }

pub closed-preserved : goal.closed-preserved
closed-preserved c =
    let closed = c.args.closed.now in
    let x : Cross = get_or closed c.closed.k none in
    rw (take_more closed c.closed.k none c.closed-test.true, set_more (take c.closed.k closed) x)
    (c.in_ok-close_cross.ensures.closed ∙ ap (λ (g : Configuration). with_closed g x.0) c.closed.invariant)
