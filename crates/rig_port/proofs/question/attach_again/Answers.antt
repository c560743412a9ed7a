use Rattle.std.proofs.Common.{◌≡◌, ◌∙◌, ◌≤◌, ap, arith, sym, subst, refl, IfSome}
use Rattle.rig_port.proofs.Vocabulary.{vec_capacity, pins_of, Roomy, cleared, turn_room, Finds, Behind}
use Rattle.rig_port.proofs.Behind.{Anyhow, behind_all, behind_more, nothing_said, said_more}
use Rattle.rig_port.proofs.Resumed.{HasCounts, still_counts}
use Rattle.rig_port.proofs.question.attach_again.Goals as goal

pub tries-preserved : goal.tries-preserved
tries-preserved g c = record {
  machine = c.attach_next.ensures.machine ∙ c.tries.invariant.machine;
  told = still_counts c.args.link.now.set.config.shape (g.P.Port.port_state c.tries.port).device (g.P.Port.port_state c.attach_next.new.port).device c.attach_next.ensures.machine c.tries.invariant.told;
  later = omega (arith, c.attach_next.ensures.later, c.tries.invariant.later);
  stays = record {
    set = c.attach_next.ensures.stays.set ∙ c.tries.invariant.stays.set;
    line = c.attach_next.ensures.stays.line ∙ c.tries.invariant.stays.line;
    anew = c.attach_next.ensures.stays.anew ∙ c.tries.invariant.stays.anew;
    running = c.attach_next.ensures.stays.running ∙ c.tries.invariant.stays.running;
    due = c.attach_next.ensures.stays.due ∙ c.tries.invariant.stays.due;
    lost = c.attach_next.ensures.stays.lost ∙ c.tries.invariant.stays.lost;
  };
  past = record {
    whole = c.tries.invariant.past.whole;
    drives = c.tries.invariant.past.drives;
    readings = c.tries.invariant.past.readings;
    made = c.tries.invariant.past.made;
    covers = c.tries.invariant.past.covers;
  };
  spare = c.tries.invariant.spare;
  talks = said_more c.args.link.now.talk c.tries.link.talk c.attach_next.new.link.talk (g.P.Port.port_state c.args.port.now).talk (g.P.Port.port_state c.tries.port).talk
      (g.P.Port.port_state c.attach_next.new.port).talk (ap (λ (s : Roomy). s.config.shape) c.tries.invariant.stays.set) c.tries.invariant.talks c.attach_next.ensures.talks;
  stood = λ s. c.attach_next.ensures.stood (c.tries.invariant.stood s);
  count = omega (arith, c.tries.invariant.count, c.saturating_add.ensures);
}

pub returns-then-attach_next-clause-fresh : goal.returns-then-attach_next-clause-fresh
returns-then-attach_next-clause-fresh g c = λ _.
    subst (λ (s : Roomy). IfSome (g.P.Port.port_state c.attach_next.new.port).device (λ d. (d.shape ≡ s.config.shape) × (d.set ≡ cleared s.config.shape))) c.tries.invariant.stays.set
    (c.attach_next.ensures.fresh c.if-attach_next.true)

pub returns-then-attach_next-clause-room : goal.returns-then-attach_next-clause-room
returns-then-attach_next-clause-room g c = λ _.
    subst (λ (s : Roomy). turn_room (pins_of s.config.shape) ≤ vec_capacity c.attach_next.new.link.expected) c.tries.invariant.stays.set (c.attach_next.ensures.room c.if-attach_next.true)

pub returns-then-attach_next-clause-stays : goal.returns-then-attach_next-clause-stays
returns-then-attach_next-clause-stays g c = record {
  set = c.attach_next.ensures.stays.set ∙ c.tries.invariant.stays.set;
  line = c.attach_next.ensures.stays.line ∙ c.tries.invariant.stays.line;
  anew = c.attach_next.ensures.stays.anew ∙ c.tries.invariant.stays.anew;
  running = c.attach_next.ensures.stays.running ∙ c.tries.invariant.stays.running;
  due = c.attach_next.ensures.stays.due ∙ c.tries.invariant.stays.due;
  lost = c.attach_next.ensures.stays.lost ∙ c.tries.invariant.stays.lost;
}

pub attach_next-requires-clause-told : goal.attach_next-requires-clause-told
attach_next-requires-clause-told g c = subst (λ (s : Roomy). HasCounts s.config.shape (g.P.Port.port_state c.tries.port).device) (sym c.tries.invariant.stays.set) c.tries.invariant.told

pub tries-init : goal.tries-init
tries-init g c = record {
  machine = refl;
  told = c.requires.told;
  later = omega arith;
  stays = record { set = refl; line = refl; anew = refl; running = refl; due = refl; lost = refl };
  past = record { whole = refl; drives = refl; readings = refl; made = refl; covers = refl };
  spare = refl;
  talks = nothing_said c.args.link.now.set.config.shape c.args.link.now.talk (g.P.Port.port_state c.args.port.now).talk;
  stood = λ s. s;
  count = omega arith;
}

pub returns-then-attach_next-clause-talks : goal.returns-then-attach_next-clause-talks
returns-then-attach_next-clause-talks g c =
    said_more c.args.link.now.talk c.tries.link.talk c.attach_next.new.link.talk (g.P.Port.port_state c.args.port.now).talk (g.P.Port.port_state c.tries.port).talk
    (g.P.Port.port_state c.attach_next.new.port).talk (ap (λ (s : Roomy). s.config.shape) c.tries.invariant.stays.set) c.tries.invariant.talks c.attach_next.ensures.talks

pub returns-then-attach_next-clause-said : goal.returns-then-attach_next-clause-said
returns-then-attach_next-clause-said g c = λ _.
    let now = c.attach_next.new.link in
    let found : Behind (Finds c.args.link.now.set.config.shape now) c.tries.link.talk now.talk
    = subst (λ (s : Roomy). Behind (Finds s.config.shape now) c.tries.link.talk now.talk) c.tries.invariant.stays.set (c.attach_next.ensures.said c.if-attach_next.true) in
    behind_more Anyhow _ _ c.args.link.now.talk c.tries.link.talk now.talk
    (behind_all c.args.link.now.talk c.tries.link.talk (g.P.Port.port_state c.args.port.now).talk (g.P.Port.port_state c.tries.port).talk c.tries.invariant.talks) found
    (λ d b e k x y near _ _ f. λ shape. f (near.0 ∙ shape))

pub returns-then-attach_next-clause-stood : goal.returns-then-attach_next-clause-stood
returns-then-attach_next-clause-stood g c = λ s. c.attach_next.ensures.stood (c.tries.invariant.stood s)

pub returns-then-attach_next-clause-stands : goal.returns-then-attach_next-clause-stands
returns-then-attach_next-clause-stands g c = λ _ s. c.attach_next.ensures.stands c.if-attach_next.true (c.tries.invariant.stood s)
