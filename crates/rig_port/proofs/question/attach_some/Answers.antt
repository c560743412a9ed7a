use Rattle.std.proofs.Common.{◌≡◌, ◌∙◌, ◌≤◌, inr, ap, arith, sym, subst, IfSome}
use Rattle.rig_port.proofs.Vocabulary.{vec_capacity, pins_of, Roomy, cleared, Rose, turn_room, Finds, Behind}
use Rattle.rig_port.proofs.Behind.{Anyhow, behind_all, behind_more, said_more}
use Rattle.rig_port.proofs.Resumed.{HasCounts, still_counts, plain_counts, alarm_on}
use Rattle.rig_port.proofs.question.attach_some.Goals as goal

pub attach_again-requires : goal.attach_again-requires
attach_again-requires g c =
    let m = c.args.link.now.set.config.shape in
    let device = (g.P.Port.port_state c.attach.new.port).device in
    record {
      told = subst (λ (s : Roomy). HasCounts s.config.shape device) (sym c.attach.ensures.stays.set)
          (still_counts m (g.P.Port.port_state c.args.port.now).device device c.attach.ensures.machine (plain_counts m (g.P.Port.port_state c.args.port.now).device c.requires.told));
    }

pub returns-clause-alarm : goal.returns-clause-alarm
returns-clause-alarm g c = λ _.
    alarm_on c.args.link.now.set.config.shape (g.P.Port.port_state c.attach.new.port).device (g.P.Port.port_state c.attach_again.new.port).device (g.P.Port.port_state c.args.port.now).failures
    (g.P.Port.port_state c.attach.new.port).failures (g.P.Port.port_state c.attach_again.new.port).failures c.attach_again.ensures.machine c.attach_again.ensures.later
    (c.attach.ensures.alarm c.if-attach.false)

pub returns-clause-fresh : goal.returns-clause-fresh
returns-clause-fresh g c = λ right.
    subst (λ (s : Roomy). IfSome (g.P.Port.port_state c.attach_again.new.port).device (λ d. (d.shape ≡ s.config.shape) × (d.set ≡ cleared s.config.shape))) c.attach.ensures.stays.set
    (c.attach_again.ensures.fresh right)

pub returns-clause-room : goal.returns-clause-room
returns-clause-room g c = λ right.
    subst (λ (s : Roomy). turn_room (pins_of s.config.shape) ≤ vec_capacity c.attach_again.new.link.expected) c.attach.ensures.stays.set (c.attach_again.ensures.room right)

pub returns-clause-rose : goal.returns-clause-rose
returns-clause-rose g c = λ _. omega (arith, c.attach_again.ensures.count, c.saturating_add.ensures)

pub returns-clause-number : goal.returns-clause-number
returns-clause-number g c = inr (let rose : Rose c.args.failures.now c.attach_again.new.failures = omega (arith, c.attach_again.ensures.count, c.saturating_add.ensures) in rose)

pub returns-clause-stays : goal.returns-clause-stays
returns-clause-stays g c = record {
  set = c.attach_again.ensures.stays.set ∙ c.attach.ensures.stays.set;
  line = c.attach_again.ensures.stays.line ∙ c.attach.ensures.stays.line;
  anew = c.attach_again.ensures.stays.anew ∙ c.attach.ensures.stays.anew;
  running = c.attach_again.ensures.stays.running ∙ c.attach.ensures.stays.running;
  due = c.attach_again.ensures.stays.due ∙ c.attach.ensures.stays.due;
  lost = c.attach_again.ensures.stays.lost ∙ c.attach.ensures.stays.lost;
}

pub returns-clause-past : goal.returns-clause-past
returns-clause-past g c = record {
  whole = c.attach_again.ensures.past.whole;
  drives = c.attach_again.ensures.past.drives;
  readings = c.attach_again.ensures.past.readings;
  made = c.attach_again.ensures.past.made;
  covers = c.attach_again.ensures.past.covers;
}

pub returns-clause-talks : goal.returns-clause-talks
returns-clause-talks g c =
    said_more c.args.link.now.talk c.attach.new.link.talk c.attach_again.new.link.talk (g.P.Port.port_state c.args.port.now).talk (g.P.Port.port_state c.attach.new.port).talk
    (g.P.Port.port_state c.attach_again.new.port).talk (ap (λ (s : Roomy). s.config.shape) c.attach.ensures.stays.set) c.attach.ensures.talks c.attach_again.ensures.talks

pub returns-clause-said : goal.returns-clause-said
returns-clause-said g c = λ right.
    let now = c.attach_again.new.link in
    let found : Behind (Finds c.args.link.now.set.config.shape now) c.attach.new.link.talk now.talk
    = subst (λ (s : Roomy). Behind (Finds s.config.shape now) c.attach.new.link.talk now.talk) c.attach.ensures.stays.set (c.attach_again.ensures.said right) in
    behind_more Anyhow _ _ c.args.link.now.talk c.attach.new.link.talk now.talk
    (behind_all c.args.link.now.talk c.attach.new.link.talk (g.P.Port.port_state c.args.port.now).talk (g.P.Port.port_state c.attach.new.port).talk c.attach.ensures.talks) found
    (λ d b e k x y near _ _ f. λ shape. f (near.0 ∙ shape))

pub returns-clause-stood : goal.returns-clause-stood
returns-clause-stood g c = λ s. c.attach_again.ensures.stood (c.attach.ensures.stood s)

pub returns-clause-stands : goal.returns-clause-stands
returns-clause-stands g c = λ right s. c.attach_again.ensures.stands right (c.attach.ensures.stood s)
