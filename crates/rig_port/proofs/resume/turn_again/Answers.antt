use Rattle.rig_port.proofs.Vocabulary.{◌∙◌, ap, sym, subst, arith, Configuration, AreWide, HasTurned, HasMade, kept_pairs}
use Rattle.rig_port.proofs.{Behind.behind_more, Behind.said_more, Standing.makes_more, Resumed.made_more, Resumed.in_session}
use Rattle.rig_port.proofs.resume.turn_again.Goals as goal

pub returns-clause-made : goal.returns-clause-made
returns-clause-made g c = λ right.
    let set = c.args.link.now.set.config in
    let cycles = kept_pairs c.args.again.now in
    let mid = (g.P.Port.port_state c.resume.new.port).device in
    let new = (g.P.Port.port_state c.turn_all.new.port).device in
    let made : HasMade set cycles c.resume.new.link.due mid = c.resume.ensures.made c.if-not-resume.false in
    made_more c.args.drives.now c.turn_all.new.reads set cycles c.resume.new.link.due c.turn_all.new.link.due mid new (in_session set cycles c.resume.new.link.due mid made)
    (subst (λ (s : Configuration). HasTurned c.args.drives.now c.turn_all.new.reads c.resume.new.link.due s mid c.turn_all.new.link.due new) c.resume.ensures.stays.set
    (c.turn_all.ensures.turned right).turned)

pub returns-clause-held : goal.returns-clause-held
returns-clause-held g c = λ right.
    let held = (c.turn_all.ensures.turned right).held in
    record {
      is_open = held.is_open;
      set = held.set ∙ c.resume.ensures.stays.set;
      lost = held.lost ∙ c.resume.ensures.stays.lost;
      running = held.running;
      check = held.check;
      linked = held.linked;
      room = held.room;
    }

pub returns-clause-stays : goal.returns-clause-stays
returns-clause-stays g c = record {
  set = c.turn_all.ensures.stays.set ∙ c.resume.ensures.stays.set;
  lost = c.turn_all.ensures.stays.lost ∙ c.resume.ensures.stays.lost;
  running = c.turn_all.ensures.stays.running ∙ c.resume.ensures.stays.running;
}

pub turn_all-requires-clause-ready : goal.turn_all-requires-clause-ready
turn_all-requires-clause-ready g c =
    let held = c.resume.ensures.held c.if-not-resume.false in
    record {
      is_open = held.is_open;
      linked = held.linked;
      running = held.running;
      wide = subst (λ (s : Configuration). AreWide s.shape c.args.drives.now) (sym c.resume.ensures.stays.set) c.requires.drives;
      check = held.check;
      room = held.room;
    }

pub turn_all-requires-clause-rows : goal.turn_all-requires-clause-rows
turn_all-requires-clause-rows g c = record {
  wide = subst (λ (s : Configuration). AreWide s.shape c.args.reads.now) (sym c.resume.ensures.stays.set) c.requires.rows.wide;
  as_many = c.requires.rows.as_many;
}

pub returns-clause-later : goal.returns-clause-later
returns-clause-later g c = record {
  machine = c.turn_all.ensures.later.machine ∙ c.resume.ensures.later.machine;
  failures = omega (arith, c.turn_all.ensures.later.failures, c.resume.ensures.later.failures);
}

pub returns-clause-talks : goal.returns-clause-talks
returns-clause-talks g c =
    said_more c.args.link.now.talk c.resume.new.link.talk c.turn_all.new.link.talk (g.P.Port.port_state c.args.port.now).talk (g.P.Port.port_state c.resume.new.port).talk
    (g.P.Port.port_state c.turn_all.new.port).talk (ap (λ (s : Configuration). s.shape) c.resume.ensures.stays.set) c.resume.ensures.talks c.turn_all.ensures.talks

pub returns-clause-said : goal.returns-clause-said
returns-clause-said g c = λ right.
    behind_more _ _ _ c.args.link.now.talk c.resume.new.link.talk c.turn_all.new.link.talk (c.resume.ensures.said c.if-not-resume.false) (c.turn_all.ensures.said right)
    (λ d b e k x y _ _. makes_more c.args.link.now.set.config (kept_pairs c.args.again.now) c.args.drives.now c.turn_all.new.reads c.resume.new.link c.turn_all.new.link
    c.resume.ensures.stays.set d b e k x y)

pub returns-clause-stood : goal.returns-clause-stood
returns-clause-stood g c = λ s. c.turn_all.ensures.stood (c.resume.ensures.stands c.if-not-resume.false s)

pub returns-clause-stands : goal.returns-clause-stands
returns-clause-stands g c = λ right s. c.turn_all.ensures.stands right (c.resume.ensures.stands c.if-not-resume.false s)
