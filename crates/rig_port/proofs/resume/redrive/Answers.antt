use Rattle.rig_port.proofs.Vocabulary.{◌∙◌, sym, subst, HasTurned, Turns, Behind}
use Rattle.rig_port.proofs.Resumed.{many_rows}
use Rattle.rig_port.proofs.resume.redrive.Goals as goal

pub are_same-requires : goal.are_same-requires
are_same-requires g c = many_rows c.args.spare.now c.turn_some.new.reads c.turn_some.ensures.lengths ∙ sym c.requires.rows.as_many ∙ sym c.requires.as_many_read

pub returns-clause-turned : goal.returns-clause-turned
returns-clause-turned g c = λ same.
    let made = c.turn_some.ensures.turned c.if-not-turn_some.false in
    record {
      held = made.held;
      turned = subst (λ rows. HasTurned c.args.drives.now rows c.args.link.now.due c.args.link.now.set.config (g.P.Port.port_state c.args.port.now).device c.turn_some.new.link.due
          (g.P.Port.port_state c.turn_some.new.port).device) (c.are_same.ensures same) made.turned;
    }

pub returns-clause-said : goal.returns-clause-said
returns-clause-said g c = λ same.
    subst (λ rows. Behind (Turns c.args.drives.now rows c.args.link.now c.turn_some.new.link) c.args.link.now.talk c.turn_some.new.link.talk) (c.are_same.ensures same)
    (c.turn_some.ensures.said c.if-not-turn_some.false)

pub returns-clause-stands : goal.returns-clause-stands
returns-clause-stands g c = λ _ s. c.turn_some.ensures.stands c.if-not-turn_some.false s
