use Rattle.rig_port.proofs.Vocabulary.{◌≡◌, ◌∙◌, ◌++◌, ap, arith, sym, subst, true, refl, pins_of, Configuration, lengths_kept, AreWide}
use Rattle.rig_port.proofs.Vocabulary.{SetsAnew, HasRows, HasMade, kept_pairs, paired, Makes, Behind}
use Rattle.rig_port.proofs.Behind.{Anyhow, behind_all, behind_more, nothing_said, said_more}
use Rattle.rig_port.proofs.Resumed.{HasShape, still_shaped, many_rows, same_pairs_kept}
use Rattle.rig_port.proofs.resume.ask_again.Goals as goal

pub turn_again-requires-clause-drives : goal.turn_again-requires-clause-drives
turn_again-requires-clause-drives g c = subst (λ (s : Configuration). AreWide s.shape c.args.drives.now) (sym c.tries.invariant.stays.set) c.requires.drives

pub tries-preserved : goal.tries-preserved
tries-preserved g c = record {
  machine = c.turn_again.ensures.later.machine ∙ c.tries.invariant.machine;
  told = still_shaped c.args.link.now.set.config.shape (g.P.Port.port_state c.tries.port).device (g.P.Port.port_state c.turn_again.new.port).device c.turn_again.ensures.later.machine c.tries.invariant.told;
  later = omega (arith, c.turn_again.ensures.later.failures, c.tries.invariant.later);
  lengths = c.turn_again.ensures.lengths ∙ c.tries.invariant.lengths;
  stays = record {
    set = c.turn_again.ensures.stays.set ∙ c.tries.invariant.stays.set;
    lost = c.turn_again.ensures.stays.lost ∙ c.tries.invariant.stays.lost;
    running = c.turn_again.ensures.stays.running ∙ c.tries.invariant.stays.running;
  };
  rows = subst (λ (s : Configuration). HasRows (pins_of s.shape) c.turn_again.new.again) c.tries.invariant.stays.set c.turn_again.ensures.kept.rows;
  past = record {
    whole = c.turn_again.ensures.kept.past.whole ∙ c.tries.invariant.past.whole;
    drives = c.turn_again.ensures.kept.past.drives ∙ c.tries.invariant.past.drives;
    readings = c.turn_again.ensures.kept.past.readings ∙ c.tries.invariant.past.readings;
    made = c.turn_again.ensures.kept.past.made ∙ c.tries.invariant.past.made;
    covers = c.turn_again.ensures.kept.past.covers ∙ c.tries.invariant.past.covers;
  };
  talks = said_more c.args.link.now.talk c.tries.link.talk c.turn_again.new.link.talk (g.P.Port.port_state c.args.port.now).talk (g.P.Port.port_state c.tries.port).talk
      (g.P.Port.port_state c.turn_again.new.port).talk (ap (λ (s : Configuration). s.shape) c.tries.invariant.stays.set) c.tries.invariant.talks c.turn_again.ensures.talks;
  stood = λ s. c.turn_again.ensures.stood (c.tries.invariant.stood s);
  count = omega (arith, c.tries.invariant.count, c.saturating_add.ensures);
}

pub returns-then-turn_again-clause-held : goal.returns-then-turn_again-clause-held
returns-then-turn_again-clause-held g c = λ _.
    let held = c.turn_again.ensures.held c.if-turn_again.true in
    record {
      is_open = held.is_open;
      set = held.set ∙ c.tries.invariant.stays.set;
      lost = held.lost ∙ c.tries.invariant.stays.lost;
      running = held.running;
      check = held.check;
      linked = held.linked;
      room = held.room;
    }

pub returns-then-turn_again-clause-made : goal.returns-then-turn_again-clause-made
returns-then-turn_again-clause-made g c = λ _.
    let new = (g.P.Port.port_state c.turn_again.new.port).device in
    let pairs = paired c.args.drives.now c.turn_again.new.reads in
    subst (λ cycles. HasMade c.args.link.now.set.config (cycles ++ pairs) c.turn_again.new.link.due new) (same_pairs_kept c.args.again.now c.tries.again c.tries.invariant.past)
    (subst (λ (s : Configuration). HasMade s (kept_pairs c.tries.again ++ pairs) c.turn_again.new.link.due new) c.tries.invariant.stays.set (c.turn_again.ensures.made c.if-turn_again.true))

pub returns-then-turn_again-clause-covers : goal.returns-then-turn_again-clause-covers
returns-then-turn_again-clause-covers g c = λ _. c.if-not-again.false

pub returns-then-turn_again-clause-stays : goal.returns-then-turn_again-clause-stays
returns-then-turn_again-clause-stays g c = record {
  set = c.turn_again.ensures.stays.set ∙ c.tries.invariant.stays.set;
  lost = c.turn_again.ensures.stays.lost ∙ c.tries.invariant.stays.lost;
  running = c.turn_again.ensures.stays.running ∙ c.tries.invariant.stays.running;
}

pub turn_again-requires-clause-again : goal.turn_again-requires-clause-again
turn_again-requires-clause-again g c = record {
  told = subst (λ (s : Configuration). HasShape s.shape (g.P.Port.port_state c.tries.port).device) (sym c.tries.invariant.stays.set) c.tries.invariant.told;
  running = c.tries.invariant.stays.running ∙ c.requires.again.running;
  rows = subst (λ (s : Configuration). HasRows (pins_of s.shape) c.tries.again) (sym c.tries.invariant.stays.set) c.tries.invariant.rows;
  whole = subst (λ (s : Configuration). SetsAnew s c.tries.again.whole.items) (sym c.tries.invariant.stays.set)
      (subst (λ v. SetsAnew c.args.link.now.set.config v.items) (sym c.tries.invariant.past.whole) c.requires.again.whole);
}

pub turn_again-requires-clause-rows : goal.turn_again-requires-clause-rows
turn_again-requires-clause-rows g c = record {
  wide = subst (λ (s : Configuration). AreWide s.shape c.tries.reads) (sym c.tries.invariant.stays.set)
      (lengths_kept (λ l. l ≡ pins_of c.args.link.now.set.config.shape) c.args.reads.now c.tries.reads c.tries.invariant.lengths c.requires.rows.wide);
  as_many = c.requires.rows.as_many ∙ sym (many_rows c.args.reads.now c.tries.reads c.tries.invariant.lengths);
}

pub returns-then-turn_again-clause-later : goal.returns-then-turn_again-clause-later
returns-then-turn_again-clause-later g c = record {
  machine = c.turn_again.ensures.later.machine ∙ c.tries.invariant.machine;
  failures = omega (arith, c.turn_again.ensures.later.failures, c.tries.invariant.later);
}

pub returns-then-turn_again-clause-kept : goal.returns-then-turn_again-clause-kept
returns-then-turn_again-clause-kept g c = record {
  rows = subst (λ (s : Configuration). HasRows (pins_of s.shape) c.turn_again.new.again) c.tries.invariant.stays.set c.turn_again.ensures.kept.rows;
  past = record {
    whole = c.turn_again.ensures.kept.past.whole ∙ c.tries.invariant.past.whole;
    drives = c.turn_again.ensures.kept.past.drives ∙ c.tries.invariant.past.drives;
    readings = c.turn_again.ensures.kept.past.readings ∙ c.tries.invariant.past.readings;
    made = c.turn_again.ensures.kept.past.made ∙ c.tries.invariant.past.made;
    covers = c.turn_again.ensures.kept.past.covers ∙ c.tries.invariant.past.covers;
  };
}

pub tries-init : goal.tries-init
tries-init g c = record {
  machine = refl;
  told = c.requires.again.told;
  later = omega arith;
  lengths = refl;
  stays = record { set = refl; lost = refl; running = refl };
  rows = c.requires.again.rows;
  past = record { whole = refl; drives = refl; readings = refl; made = refl; covers = refl };
  talks = nothing_said c.args.link.now.set.config.shape c.args.link.now.talk (g.P.Port.port_state c.args.port.now).talk;
  stood = λ s. s;
  count = omega arith;
}

pub returns-then-not-again-clause-talks : goal.returns-then-not-again-clause-talks
returns-then-not-again-clause-talks g c = nothing_said c.args.link.now.set.config.shape c.args.link.now.talk (g.P.Port.port_state c.args.port.now).talk

pub returns-then-turn_again-clause-talks : goal.returns-then-turn_again-clause-talks
returns-then-turn_again-clause-talks g c =
    said_more c.args.link.now.talk c.tries.link.talk c.turn_again.new.link.talk (g.P.Port.port_state c.args.port.now).talk (g.P.Port.port_state c.tries.port).talk
    (g.P.Port.port_state c.turn_again.new.port).talk (ap (λ (s : Configuration). s.shape) c.tries.invariant.stays.set) c.tries.invariant.talks c.turn_again.ensures.talks

pub returns-then-turn_again-clause-said : goal.returns-then-turn_again-clause-said
returns-then-turn_again-clause-said g c = λ _.
    let pairs = paired c.args.drives.now c.turn_again.new.reads in
    let now = c.turn_again.new.link in
    let made : Behind (Makes c.args.link.now.set.config (kept_pairs c.args.again.now ++ pairs) now) c.tries.link.talk now.talk
    = subst (λ cycles. Behind (Makes c.args.link.now.set.config (cycles ++ pairs) now) c.tries.link.talk now.talk) (same_pairs_kept c.args.again.now c.tries.again c.tries.invariant.past)
    (subst (λ (s : Configuration). Behind (Makes s (kept_pairs c.tries.again ++ pairs) now) c.tries.link.talk now.talk) c.tries.invariant.stays.set
    (c.turn_again.ensures.said c.if-turn_again.true)) in
    behind_more Anyhow _ _ c.args.link.now.talk c.tries.link.talk now.talk
    (behind_all c.args.link.now.talk c.tries.link.talk (g.P.Port.port_state c.args.port.now).talk (g.P.Port.port_state c.tries.port).talk c.tries.invariant.talks) made
    (λ d b e k x y same _ _ m. λ shape. m (same.0 ∙ shape))

pub returns-then-turn_again-clause-stood : goal.returns-then-turn_again-clause-stood
returns-then-turn_again-clause-stood g c = λ s. c.turn_again.ensures.stood (c.tries.invariant.stood s)

pub returns-then-turn_again-clause-stands : goal.returns-then-turn_again-clause-stands
returns-then-turn_again-clause-stands g c = λ _ s. c.turn_again.ensures.stands c.if-turn_again.true (c.tries.invariant.stood s)
