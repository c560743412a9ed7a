use Rattle.rig_port.proofs.Vocabulary.{◌≡◌, ◌∙◌, ◌++◌, ap, refl, arith, sym, subst, inr, pins_of, Configuration, Rose, lengths_kept, AreWide}
use Rattle.rig_port.proofs.Vocabulary.{SetsAnew, HasRows, HasMade, kept_pairs, paired, Device, Makes, Behind}
use Rattle.rig_port.proofs.{Behind.Anyhow, Behind.behind_all, Behind.behind_more, Behind.behind_so, Behind.said_more, Standing.turns_again}
use Rattle.rig_port.proofs.Resumed.{HasShape, still_shaped, many_rows, rose_still, turned_again}
use Rattle.rig_port.proofs.resume.turn_or_again.Goals as goal

pub ask_again-requires-clause-again : goal.ask_again-requires-clause-again
ask_again-requires-clause-again g c =
    let device = (g.P.Port.port_state c.turn_all.new.port).device in
    record {
      told = subst (λ (s : Configuration). HasShape s.shape device) (sym c.turn_all.ensures.stays.set)
          (still_shaped c.args.link.now.set.config.shape (g.P.Port.port_state c.args.port.now).device device c.turn_all.ensures.later.machine c.requires.told);
      running = c.turn_all.ensures.stays.running ∙ c.requires.ready.running;
      rows = subst (λ (s : Configuration). HasRows (pins_of s.shape) c.args.again.now) (sym c.turn_all.ensures.stays.set) c.requires.resumes.rows;
      whole = subst (λ (s : Configuration). SetsAnew s c.args.again.now.whole.items) (sym c.turn_all.ensures.stays.set) (c.requires.resumes.whole c.requires.ready.running);
    }

pub ask_again-requires-clause-drives : goal.ask_again-requires-clause-drives
ask_again-requires-clause-drives g c = subst (λ (s : Configuration). AreWide s.shape c.args.drives.now) (sym c.turn_all.ensures.stays.set) c.requires.ready.wide

pub ask_again-requires-clause-rows : goal.ask_again-requires-clause-rows
ask_again-requires-clause-rows g c = record {
  wide = subst (λ (s : Configuration). AreWide s.shape c.turn_all.new.reads) (sym c.turn_all.ensures.stays.set)
      (lengths_kept (λ l. l ≡ pins_of c.args.link.now.set.config.shape) c.args.reads.now c.turn_all.new.reads c.turn_all.ensures.lengths c.requires.rows.wide);
  as_many = c.requires.rows.as_many ∙ sym (many_rows c.args.reads.now c.turn_all.new.reads c.turn_all.ensures.lengths);
}

pub returns-clause-later : goal.returns-clause-later
returns-clause-later g c = record {
  machine = c.ask_again.ensures.later.machine ∙ c.turn_all.ensures.later.machine;
  failures = omega (arith, c.ask_again.ensures.later.failures, c.turn_all.ensures.later.failures);
}

pub returns-clause-kept : goal.returns-clause-kept
returns-clause-kept g c = record {
  rows = subst (λ (s : Configuration). HasRows (pins_of s.shape) c.ask_again.new.again) c.turn_all.ensures.stays.set c.ask_again.ensures.kept.rows;
  past = c.ask_again.ensures.kept.past;
}

pub returns-then-turn_all-clause-kept : goal.returns-then-turn_all-clause-kept
returns-then-turn_all-clause-kept g c = record {
  rows = c.requires.resumes.rows;
  past = record { whole = refl; drives = refl; readings = refl; made = refl; covers = refl };
}

pub returns-clause-turned : goal.returns-clause-turned
returns-clause-turned g c = λ right.
    let set = c.args.link.now.set.config in
    let cycles = kept_pairs c.args.again.now in
    let reads = c.ask_again.new.reads in
    let new = (g.P.Port.port_state c.ask_again.new.port).device in
    let many = c.requires.rows.as_many ∙ sym (many_rows c.args.reads.now c.turn_all.new.reads c.turn_all.ensures.lengths) ∙ sym (many_rows c.turn_all.new.reads reads c.ask_again.ensures.lengths) in
    let held = c.ask_again.ensures.held right in
    record {
      held = record {
        is_open = held.is_open;
        set = held.set ∙ c.turn_all.ensures.stays.set;
        lost = held.lost ∙ c.turn_all.ensures.stays.lost;
        running = held.running;
        check = held.check;
        linked = held.linked;
        room = held.room;
      };
      turned = turned_again c.args.drives.now reads set cycles c.args.link.now.due c.ask_again.new.link.due (g.P.Port.port_state c.args.port.now).device new many
          (c.ask_again.ensures.later.machine ∙ c.turn_all.ensures.later.machine) (c.requires.resumes.kept c.requires.ready.running (c.ask_again.ensures.covers right))
          (subst (λ (s : Configuration). HasMade s (cycles ++ paired c.args.drives.now reads) c.ask_again.new.link.due new) c.turn_all.ensures.stays.set (c.ask_again.ensures.made right));
    }

pub returns-clause-alarm : goal.returns-clause-alarm
returns-clause-alarm g c = λ _ some.
    rose_still (g.P.Port.port_state c.args.port.now).failures (g.P.Port.port_state c.turn_all.new.port).failures (g.P.Port.port_state c.ask_again.new.port).failures
    c.ask_again.ensures.later.failures (c.turn_all.ensures.alarm c.if-turn_all.false some)

pub returns-clause-rose : goal.returns-clause-rose
returns-clause-rose g c = λ _. omega (arith, c.ask_again.ensures.count, c.saturating_add.ensures)

pub returns-clause-number : goal.returns-clause-number
returns-clause-number g c = inr (let rose : Rose c.args.failures.now c.ask_again.new.failures = omega (arith, c.ask_again.ensures.count, c.saturating_add.ensures) in rose)

pub returns-clause-talks : goal.returns-clause-talks
returns-clause-talks g c =
    said_more c.args.link.now.talk c.turn_all.new.link.talk c.ask_again.new.link.talk (g.P.Port.port_state c.args.port.now).talk (g.P.Port.port_state c.turn_all.new.port).talk
    (g.P.Port.port_state c.ask_again.new.port).talk (ap (λ (s : Configuration). s.shape) c.turn_all.ensures.stays.set) c.turn_all.ensures.talks c.ask_again.ensures.talks

pub returns-then-turn_all-clause-said : goal.returns-then-turn_all-clause-said
returns-then-turn_all-clause-said g c = λ _.
    behind_so _ _ c.args.link.now.talk c.turn_all.new.link.talk (c.turn_all.ensures.said c.if-turn_all.true) (λ d b e k _ turns. λ goes _. turns goes)

pub returns-clause-said : goal.returns-clause-said
returns-clause-said g c = λ right.
    let set = c.args.link.now.set.config in
    let cycles = kept_pairs c.args.again.now in
    let now = c.ask_again.new.link in
    let many = c.requires.rows.as_many ∙ sym (many_rows c.args.reads.now c.turn_all.new.reads c.turn_all.ensures.lengths) ∙ sym (many_rows c.turn_all.new.reads c.ask_again.new.reads c.ask_again.ensures.lengths) in
    let made : Behind (Makes set (cycles ++ paired c.args.drives.now c.ask_again.new.reads) now) c.turn_all.new.link.talk now.talk
    = subst (λ (s : Configuration). Behind (Makes s (cycles ++ paired c.args.drives.now c.ask_again.new.reads) now) c.turn_all.new.link.talk now.talk) c.turn_all.ensures.stays.set
    (c.ask_again.ensures.said right) in
    behind_more Anyhow _ _ c.args.link.now.talk c.turn_all.new.link.talk now.talk
    (behind_all c.args.link.now.talk c.turn_all.new.link.talk (g.P.Port.port_state c.args.port.now).talk (g.P.Port.port_state c.turn_all.new.port).talk c.turn_all.ensures.talks) made
    (λ d b e k x y near same _ m. turns_again c.args.drives.now c.ask_again.new.reads c.args.again.now c.args.link.now now cycles many
    (λ (o : Device) resumes. resumes.kept c.requires.ready.running (c.ask_again.ensures.covers right)) d b x y same (λ shape. m (near.0 ∙ shape)))

pub returns-clause-stands : goal.returns-clause-stands
returns-clause-stands g c = λ right s. c.ask_again.ensures.stands right (c.turn_all.ensures.stood s)
