use Rattle.rig_port.proofs.Vocabulary.{◌∙◌, refl, ap, subst, not-false, pins_of, cycles_of, after, edits_of, IsDriven}
use Rattle.rig_port.proofs.Answered.{edits_all, body_loads, body_drives, line_loads, line_drives, load_told, drives_told, ready_on, are_drives}
use Rattle.rig_port.proofs.rig_port.answer_wanted.Goals as goal

pub returns-then-wanted-clause-told : goal.returns-then-wanted-clause-told
returns-then-wanted-clause-told g c = λ k sent.
    let w = c.args.wanted.now in
    let set = c.args.set.now.config in
    load_told set.shape k c.in_ok-loaded.loaded c.args.standing.check _ c.answer_load.new.line.items set c.args.standing.running (g.R.Rig.rig_state c.args.inner.now) c.answer_load.new.set.config
    (g.R.Rig.rig_state c.answer_load.new.inner) w.anew (edits_of w.changes.items) w.drives.items refl c.answer_load.ensures.machine
    (edits_all set.shape w.changes.items c.requires.wanted.edits) c.requires.wanted.drives (line_loads k w c.if-wanted.true)
    (sent ∙ ap (after k) (body_loads w c.if-wanted.true)) c.in_ok-loaded.ensures.set c.in_ok-loaded.ensures.driven

pub returns-clause-ready : goal.returns-clause-ready
returns-clause-ready g c =
    let set = c.args.set.now.config in
    let k = c.args.standing.check in
    let now = c.in_ok-driven.driven in
    ready_on k now set.shape set (g.R.Rig.rig_state c.args.inner.now) (g.R.Rig.rig_state c.drive.new.inner) (cycles_of (g.R.Rig.rig_state c.args.inner.now)) c.args.wanted.now.drives.items
    c.drive.new.line.items c.args.standing.running (not-false c.args.standing.running c.if-not-standing.false) c.requires.ready c.drive.ensures.machine
    (λ h is. subst (λ m. IsDriven k (pins_of m) h (cycles_of (g.R.Rig.rig_state c.args.inner.now)) c.args.wanted.now.drives.items c.drive.new.line.items now
    (g.R.Rig.rig_state c.drive.new.inner)) c.shape-shape.ensures.shape
    (subst (λ ds. IsDriven k (pins_of c.shape-shape.result) h (cycles_of (g.R.Rig.rig_state c.args.inner.now)) ds c.drive.new.line.items now
    (g.R.Rig.rig_state c.drive.new.inner)) c.deref.ensures.value (c.in_ok-driven.ensures.driven h is)))

pub returns-clause-told : goal.returns-clause-told
returns-clause-told g c = λ l sent.
    let set = c.args.set.now.config in
    let w = c.args.wanted.now in
    let k = c.args.standing.check in
    let now = c.in_ok-driven.driven in
    drives_told set.shape l now k _ c.drive.new.line.items set c.args.standing.running (g.R.Rig.rig_state c.args.inner.now) (g.R.Rig.rig_state c.drive.new.inner) w.drives.items
    (not-false c.args.standing.running c.if-not-standing.false) c.drive.ensures.machine (are_drives set.shape w c.requires.wanted c.if-wanted.false) (line_drives l w c.if-wanted.false)
    (sent ∙ ap (after l) (body_drives w c.if-wanted.false))
    (λ h is. subst (λ m. IsDriven k (pins_of m) h (cycles_of (g.R.Rig.rig_state c.args.inner.now)) w.drives.items c.drive.new.line.items now
    (g.R.Rig.rig_state c.drive.new.inner)) c.shape-shape.ensures.shape
    (subst (λ ds. IsDriven k (pins_of c.shape-shape.result) h (cycles_of (g.R.Rig.rig_state c.args.inner.now)) ds c.drive.new.line.items now
    (g.R.Rig.rig_state c.drive.new.inner)) c.deref.ensures.value (c.in_ok-driven.ensures.driven h is)))
