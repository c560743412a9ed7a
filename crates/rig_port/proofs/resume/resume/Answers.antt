use Rattle.rig_port.proofs.Vocabulary.{◌≡◌, ◌∙◌, ◌≤◌, List, All, take, length, refl, arith, ap, sym, subst, length-take-le, All-take}
use Rattle.rig_port.proofs.Vocabulary.{vec_capacity, pins_of, Pins, Configuration, Roomy, turn_room, AreWide, HasTurned, KeepLengths}
use Rattle.rig_port.proofs.Vocabulary.{SetsAnew, HasMade, paired, Said, Turns, Makes, HasStood, StandsTold, Behind, GoOn}
use Rattle.rig_port.proofs.Resumed.{HasShape, shaped_counts, still_shaped, made_first, many_rows, rows_again, rows_stay}
use Rattle.rig_port.proofs.{Behind.behind_more, Behind.said_more, Standing.makes_first, Held.seam}
use Rattle.rig_port.proofs.resume.resume.Goals as goal

pub attach_next-requires-clause-told : goal.attach_next-requires-clause-told
attach_next-requires-clause-told g c = shaped_counts c.args.link.now.set.config.shape (g.P.Port.port_state c.args.port.now).device c.requires.again.told

pub load_anew-requires-clause-whole : goal.load_anew-requires-clause-whole
load_anew-requires-clause-whole g c =
    rw c.deref.ensures.value (subst (λ (s : Roomy). SetsAnew s.config c.args.again.now.whole.items) (sym c.attach_next.ensures.stays.set) c.requires.again.whole)

pub load_anew-requires-clause-expected : goal.load_anew-requires-clause-expected
load_anew-requires-clause-expected g c =
    subst (λ (s : Roomy). turn_room (pins_of s.config.shape) ≤ vec_capacity c.attach_next.new.link.expected) (sym c.attach_next.ensures.stays.set)
    (c.attach_next.ensures.room c.if-not-attach_next.false)

pub redrive_first-requires-clause-spare : goal.redrive_first-requires-clause-spare
redrive_first-requires-clause-spare g c =
    let set = c.load_anew.ensures.stays.set ∙ ap (λ (s : Roomy). s.config) c.attach_next.ensures.stays.set in
    rw c.deref_mut.ensures.value (subst (λ (s : Configuration). All (λ (row : Pins). length row ≡ pins_of s.shape) c.args.again.now.spare.items) (sym set) c.requires.again.rows.spare)

pub redrive_first-requires-clause-as_many : goal.redrive_first-requires-clause-as_many
redrive_first-requires-clause-as_many g c =
    let d = length-take-le c.args.again.now.made c.args.again.now.drives.items c.requires.again.rows.made in
    rw (c.deref-2.ensures.value, c.deref_mut.ensures.value) (omega (arith, d, c.requires.again.rows.made, c.requires.again.rows.many_spare))

pub redrive_first-requires-clause-as_many_read : goal.redrive_first-requires-clause-as_many_read
redrive_first-requires-clause-as_many_read g c =
    let d = length-take-le c.args.again.now.made c.args.again.now.drives.items c.requires.again.rows.made in
    let r = length-take-le c.args.again.now.made c.args.again.now.readings.items (omega (arith, c.requires.again.rows.made, c.requires.again.rows.many)) in
    rw (c.deref-3.ensures.value, c.deref-2.ensures.value) (r ∙ sym d)

pub returns-clause-made : goal.returns-clause-made
returns-clause-made g c = λ right.
    let set = c.load_anew.ensures.stays.set ∙ ap (λ (s : Roomy). s.config) c.attach_next.ensures.stays.set in
    let g0 = c.args.link.now.set.config in
    let n = c.args.again.now.made in
    let drives : List Pins = c.deref-2.result.now in
    let reads : List Pins = c.deref-3.result.now in
    let new = (g.P.Port.port_state c.redrive_first.new.port).device in
    subst (λ (xs : List Pins). HasMade g0 (paired (take n xs) (take n c.args.again.now.readings.items)) c.redrive_first.new.link.due new) c.deref-2.ensures.value
    (subst (λ (xs : List Pins). HasMade g0 (paired (take n drives) (take n xs)) c.redrive_first.new.link.due new) c.deref-3.ensures.value
    (made_first (take n drives) (take n reads) g0 c.load_anew.new.link.due c.redrive_first.new.link.due (g.P.Port.port_state c.attach_next.new.port).device new c.in-Ok.ensures.due
    (subst (λ (s : Configuration). HasTurned (take n drives) (take n reads) c.load_anew.new.link.due s (g.P.Port.port_state c.attach_next.new.port).device c.redrive_first.new.link.due new) set
    (c.redrive_first.ensures.turned right).turned)))

pub returns-then-not-attach_next-clause-stays : goal.returns-then-not-attach_next-clause-stays
returns-then-not-attach_next-clause-stays g c = record {
  set = ap (λ (s : Roomy). s.config) c.attach_next.ensures.stays.set;
  lost = c.attach_next.ensures.stays.lost;
  running = c.attach_next.ensures.stays.running;
}

pub returns-in_default-clause-stays : goal.returns-in_default-clause-stays
returns-in_default-clause-stays g c = record {
  set = c.load_anew.ensures.stays.set ∙ ap (λ (s : Roomy). s.config) c.attach_next.ensures.stays.set;
  lost = c.load_anew.ensures.stays.lost ∙ c.attach_next.ensures.stays.lost;
  running = c.load_anew.ensures.stays.running ∙ c.attach_next.ensures.stays.running;
}

pub returns-clause-stays : goal.returns-clause-stays
returns-clause-stays g c = record {
  set = c.redrive_first.ensures.stays.set ∙ c.load_anew.ensures.stays.set ∙ ap (λ (s : Roomy). s.config) c.attach_next.ensures.stays.set;
  lost = c.redrive_first.ensures.stays.lost ∙ c.load_anew.ensures.stays.lost ∙ c.attach_next.ensures.stays.lost;
  running = c.redrive_first.ensures.stays.running ∙ c.load_anew.ensures.stays.running ∙ c.attach_next.ensures.stays.running;
}

pub returns-clause-held : goal.returns-clause-held
returns-clause-held g c = λ right.
    let held = (c.redrive_first.ensures.turned right).held in
    record {
      is_open = held.is_open;
      set = held.set ∙ c.load_anew.ensures.stays.set ∙ ap (λ (s : Roomy). s.config) c.attach_next.ensures.stays.set;
      lost = held.lost ∙ c.load_anew.ensures.stays.lost ∙ c.attach_next.ensures.stays.lost;
      running = held.running;
      check = held.check;
      linked = held.linked;
      room = held.room;
    }

pub redrive_first-requires-clause-ready : goal.redrive_first-requires-clause-ready
redrive_first-requires-clause-ready g c =
    let set = c.load_anew.ensures.stays.set ∙ ap (λ (s : Roomy). s.config) c.attach_next.ensures.stays.set in
    record {
      is_open = c.attach_next.ensures.open c.if-not-attach_next.false;
      linked = c.in-Ok.ensures.linked (g.P.Port.port_state c.attach_next.new.port).device
          (subst (λ (s : Roomy). HasShape s.config.shape (g.P.Port.port_state c.attach_next.new.port).device) (sym c.attach_next.ensures.stays.set)
          (still_shaped c.args.link.now.set.config.shape (g.P.Port.port_state c.args.port.now).device (g.P.Port.port_state c.attach_next.new.port).device c.attach_next.ensures.machine c.requires.again.told));
      running = c.load_anew.ensures.stays.running ∙ c.attach_next.ensures.stays.running ∙ c.requires.again.running;
      wide = rw c.deref-2.ensures.value (subst (λ (s : Configuration). AreWide s.shape (take c.args.again.now.made c.args.again.now.drives.items)) (sym set)
          (All-take (λ (row : Pins). length row ≡ pins_of c.args.link.now.set.config.shape) c.args.again.now.made c.args.again.now.drives.items c.requires.again.rows.drives));
      check = λ some. c.attach_next.ensures.check c.if-not-attach_next.false some ∙ sym c.load_anew.ensures.check;
      room = c.in-Ok.ensures.room;
    }

pub returns-clause-later : goal.returns-clause-later
returns-clause-later g c = record {
  machine = c.redrive_first.ensures.later.machine ∙ c.attach_next.ensures.machine;
  failures = omega (arith, c.redrive_first.ensures.later.failures, c.attach_next.ensures.later);
}

pub returns-clause-kept : goal.returns-clause-kept
returns-clause-kept g c =
    let old = c.args.again.now.spare in
    let keep : KeepLengths old.items c.redrive_first.new.spare
    = subst (λ (xs : List Pins). KeepLengths xs c.redrive_first.new.spare) c.deref_mut.ensures.value c.redrive_first.ensures.lengths in
    record {
      rows = rows_again (pins_of c.args.link.now.set.config.shape) c.args.again.now _ c.redrive_first.new.spare c.requires.again.rows keep refl refl refl
          (seam c.redrive_first.new.spare old.items old.len (many_rows old.items c.redrive_first.new.spare keep) old.ok.0);
      past = record { whole = refl; drives = refl; readings = refl; made = refl; covers = refl };
    }

pub returns-then-not-attach_next-clause-kept : goal.returns-then-not-attach_next-clause-kept
returns-then-not-attach_next-clause-kept g c = record {
  rows = rows_stay (pins_of c.args.link.now.set.config.shape) c.args.again.now _ (record { whole = refl; drives = refl; readings = refl; made = refl; covers = refl }) refl c.requires.again.rows;
  past = record { whole = refl; drives = refl; readings = refl; made = refl; covers = refl };
}

pub returns-in_default-clause-kept : goal.returns-in_default-clause-kept
returns-in_default-clause-kept g c = record {
  rows = rows_stay (pins_of c.args.link.now.set.config.shape) c.args.again.now _ (record { whole = refl; drives = refl; readings = refl; made = refl; covers = refl }) refl c.requires.again.rows;
  past = record { whole = refl; drives = refl; readings = refl; made = refl; covers = refl };
}

pub returns-clause-talks : goal.returns-clause-talks
returns-clause-talks g c =
    said_more c.args.link.now.talk c.attach_next.new.link.talk c.redrive_first.new.link.talk (g.P.Port.port_state c.args.port.now).talk (g.P.Port.port_state c.attach_next.new.port).talk
    (g.P.Port.port_state c.redrive_first.new.port).talk
    (ap (λ (s : Configuration). s.shape) c.load_anew.ensures.stays.set ∙ ap (λ (s : Roomy). s.config.shape) c.attach_next.ensures.stays.set) c.attach_next.ensures.talks
    (subst (λ (t : List Said). GoOn c.load_anew.new.link.set.config.shape t c.redrive_first.new.link.talk (g.P.Port.port_state c.attach_next.new.port).talk (g.P.Port.port_state c.redrive_first.new.port).talk) c.load_anew.ensures.talk
    c.redrive_first.ensures.talks)

pub returns-in_default-clause-talks : goal.returns-in_default-clause-talks
returns-in_default-clause-talks g c =
    subst (λ (t : List Said). GoOn c.args.link.now.set.config.shape c.args.link.now.talk t (g.P.Port.port_state c.args.port.now).talk (g.P.Port.port_state c.attach_next.new.port).talk) (sym c.load_anew.ensures.talk)
    c.attach_next.ensures.talks

pub returns-clause-said : goal.returns-clause-said
returns-clause-said g c = λ right.
    let set = c.load_anew.ensures.stays.set ∙ ap (λ (s : Roomy). s.config) c.attach_next.ensures.stays.set in
    let g0 = c.args.link.now.set.config in
    let n = c.args.again.now.made in
    let drives : List Pins = c.deref-2.result.now in
    let reads : List Pins = c.deref-3.result.now in
    let now = c.redrive_first.new.link in
    let old = c.args.link.now.talk in
    let turned : Behind (Turns (take n drives) (take n reads) c.load_anew.new.link now) c.attach_next.new.link.talk now.talk
    = subst (λ (t : List Said). Behind (Turns (take n drives) (take n reads) c.load_anew.new.link now) t now.talk) c.load_anew.ensures.talk (c.redrive_first.ensures.said right) in
    subst (λ (xs : List Pins). Behind (Makes g0 (paired (take n xs) (take n c.args.again.now.readings.items)) now) old now.talk) c.deref-2.ensures.value
    (subst (λ (xs : List Pins). Behind (Makes g0 (paired (take n drives) (take n xs)) now) old now.talk) c.deref-3.ensures.value
    (behind_more _ _ _ old c.attach_next.new.link.talk now.talk (c.attach_next.ensures.said c.if-not-attach_next.false) turned
    (λ d b e k x y _ _. makes_first g0 (take n drives) (take n reads) c.attach_next.new.link c.load_anew.new.link now set c.in-Ok.ensures.due c.load_anew.ensures.check
    (λ device shape. c.in-Ok.ensures.linked device (subst (λ (s : Roomy). HasShape s.config.shape device) (sym c.attach_next.ensures.stays.set) shape)) d b e k x y)))

pub returns-in_default-clause-stood : goal.returns-in_default-clause-stood
returns-in_default-clause-stood g c = λ s. subst (λ (t : List Said). HasStood (g.P.Port.port_state c.attach_next.new.port) t) (sym c.load_anew.ensures.talk) (c.attach_next.ensures.stood s)

pub returns-clause-stood : goal.returns-clause-stood
returns-clause-stood g c = λ s.
    c.redrive_first.ensures.stood
    (subst (λ (t : List Said). StandsTold (g.P.Port.port_state c.attach_next.new.port) t) (sym c.load_anew.ensures.talk) (c.attach_next.ensures.stands c.if-not-attach_next.false s))

pub returns-clause-stands : goal.returns-clause-stands
returns-clause-stands g c = λ right s.
    c.redrive_first.ensures.stands right
    (subst (λ (t : List Said). StandsTold (g.P.Port.port_state c.attach_next.new.port) t) (sym c.load_anew.ensures.talk) (c.attach_next.ensures.stands c.if-not-attach_next.false s))
