use Rattle.std.proofs.Common.{◌≡◌, ◌∙◌, All, length, ap, sym, subst, IfSome, Some}
use Rattle.rig_port.proofs.Vocabulary.{pins_of, Pins, Configuration, IsInSession, lengths_kept, told_with, SetsAnew, HasRows, kept_pairs}
use Rattle.rig_port.proofs.{Behind.behind_so, Resumed.many_rows, Resumed.resumed}
use Rattle.rig_port.proofs.resume.drive_on.Goals as goal

pub keep-requires-clause-rows : goal.keep-requires-clause-rows
keep-requires-clause-rows g c =
    let held = (c.turn_or_again.ensures.turned c.if-not-turn_or_again.false).held in
    let pins = c.pins-pins.ensures.pins ∙ ap pins_of (c.shape.ensures.shape ∙ ap (λ (s : Configuration). s.shape) held.set) in
    subst (λ n. HasRows n c.turn_or_again.new.again) (sym pins) c.turn_or_again.ensures.kept.rows

pub keep-requires-clause-drives : goal.keep-requires-clause-drives
keep-requires-clause-drives g c =
    let held = (c.turn_or_again.ensures.turned c.if-not-turn_or_again.false).held in
    let pins = c.pins-pins.ensures.pins ∙ ap pins_of (c.shape.ensures.shape ∙ ap (λ (s : Configuration). s.shape) held.set) in
    subst (λ n. All (λ (row : Pins). length row ≡ n) c.args.drives.now) (sym pins) c.requires.ready.wide

pub keep-requires-clause-readings : goal.keep-requires-clause-readings
keep-requires-clause-readings g c =
    let held = (c.turn_or_again.ensures.turned c.if-not-turn_or_again.false).held in
    let pins = c.pins-pins.ensures.pins ∙ ap pins_of (c.shape.ensures.shape ∙ ap (λ (s : Configuration). s.shape) held.set) in
    subst (λ n. All (λ (row : Pins). length row ≡ n) c.turn_or_again.new.reads) (sym pins)
    (lengths_kept (λ l. l ≡ pins_of c.args.link.now.set.config.shape) c.args.reads.now c.turn_or_again.new.reads c.turn_or_again.ensures.lengths c.requires.rows.wide)

pub keep-requires-clause-as_many : goal.keep-requires-clause-as_many
keep-requires-clause-as_many g c = many_rows c.args.reads.now c.turn_or_again.new.reads c.turn_or_again.ensures.lengths ∙ sym c.requires.rows.as_many

pub returns-clause-resumes : goal.returns-clause-resumes
returns-clause-resumes g c = λ _.
    let held = (c.turn_or_again.ensures.turned c.if-not-turn_or_again.false).held in
    let set = c.args.link.now.set.config in
    let old = (g.P.Port.port_state c.args.port.now).device in
    let new = (g.P.Port.port_state c.turn_or_again.new.port).device in
    let pins = c.pins-pins.ensures.pins ∙ ap pins_of c.shape.ensures.shape in
    record {
      rows = subst (λ n. HasRows n c.keep.new.self) pins c.keep.ensures.rows;
      whole = λ _.
          subst (λ (s : Configuration). SetsAnew s c.keep.new.self.whole.items) (sym held.set)
          (subst (λ v. SetsAnew set v.items) (sym (c.keep.ensures.whole ∙ c.turn_or_again.ensures.kept.past.whole)) (c.requires.resumes.whole c.requires.ready.running));
      kept = λ _ covers.
          subst (λ (s : Configuration). IfSome (told_with c.turn_or_again.new.link.due s new) (IsInSession s (kept_pairs c.keep.new.self))) (sym held.set)
          (resumed (pins_of set.shape) set c.args.link.now.due c.turn_or_again.new.link.due old new c.args.again.now c.turn_or_again.new.again c.keep.new.self c.args.drives.now
          c.turn_or_again.new.reads c.turn_or_again.ensures.kept.rows c.turn_or_again.ensures.kept.past c.keep.ensures.kept c.keep.ensures.covers (c.requires.resumes.kept c.requires.ready.running)
          (c.turn_or_again.ensures.turned c.if-not-turn_or_again.false).turned covers);
    }

pub returns-clause-said : goal.returns-clause-said
returns-clause-said g c = λ _.
    let held = (c.turn_or_again.ensures.turned c.if-not-turn_or_again.false).held in
    let set = c.args.link.now.set.config in
    let now = c.turn_or_again.new.link in
    let pins = c.pins-pins.ensures.pins ∙ ap pins_of c.shape.ensures.shape in
    behind_so _ _ c.args.link.now.talk now.talk (c.turn_or_again.ensures.said c.if-not-turn_or_again.false) (λ d b e k _ turns. λ goes resumes.
    let t = turns goes resumes in (
      t,
      record {
        rows = subst (λ n. HasRows n c.keep.new.self) pins c.keep.ensures.rows;
        whole = λ _.
            subst (λ (s : Configuration). SetsAnew s c.keep.new.self.whole.items) (sym held.set)
            (subst (λ v. SetsAnew set v.items) (sym (c.keep.ensures.whole ∙ c.turn_or_again.ensures.kept.past.whole)) (c.requires.resumes.whole c.requires.ready.running));
        kept = λ _ covers.
            subst (λ (s : Configuration). IfSome (told_with now.due s (Some e)) (IsInSession s (kept_pairs c.keep.new.self))) (sym held.set)
            (resumed (pins_of set.shape) set c.args.link.now.due now.due (Some d) (Some e) c.args.again.now c.turn_or_again.new.again c.keep.new.self c.args.drives.now
            c.turn_or_again.new.reads c.turn_or_again.ensures.kept.rows c.turn_or_again.ensures.kept.past c.keep.ensures.kept c.keep.ensures.covers (resumes.kept c.requires.ready.running)
            t.turned covers);
      },
    ))

pub returns-clause-stands : goal.returns-clause-stands
returns-clause-stands g c = λ _ s. c.turn_or_again.ensures.stands c.if-not-turn_or_again.false s
