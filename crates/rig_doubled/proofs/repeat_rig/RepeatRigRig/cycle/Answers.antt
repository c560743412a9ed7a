use Rattle.std.proofs.Common.{arith, refl, ◌≡◌, ◌∙◌, ◌++◌, None, IsSome, if◌then◌else◌, sym, ap, subst, length}
use Rattle.rig_doubled.proofs.Vocabulary.{Narrows, RigState, standing, narrows_cycle, Repeated, ended_in}
use Rattle.rig_doubled.proofs.{Endings.ended_explains, Endings.ended_more, Endings.ends_own, Endings.width_session, Repeating.repeats_still}
use Rattle.rig_doubled.proofs.repeat_rig.RepeatRigRig.cycle.Goals as goal

pub invariant_of-self : goal.invariant_of-self
invariant_of-self g c =
    let state : g.row.R.Denot → RigState = λ r. g.R.Rig.rig_state r in
    let stood : IsSome (if c.self.inside.stands then (state c.self.inside.inner).session else None) =
    subst (λ (r : Repeated g.row.R.Denot). IsSome (if r.stands then (state r.inner).session else None)) (sym c.self.view_is)
    (width_session (if c.args.self.now.stands then (state c.args.self.now.inner).session else None) (length c.args.drive.now) c.requires.drive_pins) in
    let narrows : Narrows (state c.self.inside.inner) (state c.go_on.new.inner) =
    narrows_cycle c.args.drive.now c.go_on.new.read c.go_on.result c.go_on.ensures.machine c.go_on.ensures.cycles c.go_on.ensures.refused in
    repeats_still c.self.inside.stands c.self.invariant stood c.go_on.ensures.kept (λ f e. c.self.invariant.explains f (narrows f e))

pub invariant_of-self-in-Err-Failed : goal.invariant_of-self-in-Err-Failed
invariant_of-self-in-Err-Failed g c =
    let state : g.row.R.Denot → RigState = λ r. g.R.Rig.rig_state r in
    let inner = state c.self.inside.inner in
    let past = ended_in state c.self.inside.past.items in
    let ended = ended_in state c.and-ended.result.items in
    let stood : IsSome (if c.self.inside.stands then inner.session else None) =
    subst (λ (r : Repeated g.row.R.Denot). IsSome (if r.stands then (state r.inner).session else None)) (sym c.self.view_is)
    (width_session (if c.args.self.now.stands then (state c.args.self.now.inner).session else None) (length c.args.drive.now) c.requires.drive_pins) in
    let narrows : Narrows inner (state c.go_on.new.inner) =
    narrows_cycle c.args.drive.now c.go_on.new.read c.go_on.result c.go_on.ensures.machine c.go_on.ensures.cycles c.go_on.ensures.refused in
    let more : ended ≡ past ++ standing inner.session = ap (ended_in state) c.and-ended.ensures ∙ ended_more state c.self.inside.past.items c.self.inside.inner in
    repeats_still c.self.inside.stands c.self.invariant stood c.go_on.ensures.kept
    (ended_explains c.self.inside.stands past ended inner (state c.go_on.new.inner) (ends_own c.self.inside.stands past ended inner.session stood more) c.self.invariant.explains narrows)

pub returns-in-Ok-clause-machine : goal.returns-in-Ok-clause-machine
returns-in-Ok-clause-machine g c = rw (← c.self.view_is) c.go_on.ensures.machine

pub returns-in-Ok-clause-loads : goal.returns-in-Ok-clause-loads
returns-in-Ok-clause-loads g c = rw (← c.self.view_is) refl

pub returns-in-Ok-clause-later : goal.returns-in-Ok-clause-later
returns-in-Ok-clause-later g c = rw (← c.self.view_is) (let later = c.go_on.ensures.later in omega (arith, later))

pub returns-in-Ok-clause-times : goal.returns-in-Ok-clause-times
returns-in-Ok-clause-times g c = rw (← c.self.view_is) refl

pub returns-in-Ok-clause-inner_loads : goal.returns-in-Ok-clause-inner_loads
returns-in-Ok-clause-inner_loads g c = rw (← c.self.view_is) c.go_on.ensures.loads

pub returns-in-Err-Failed-clause-machine : goal.returns-in-Err-Failed-clause-machine
returns-in-Err-Failed-clause-machine g c = rw (← c.self.view_is) c.go_on.ensures.machine

pub returns-in-Err-Failed-clause-loads : goal.returns-in-Err-Failed-clause-loads
returns-in-Err-Failed-clause-loads g c = rw (← c.self.view_is) refl

pub returns-in-Err-Failed-clause-later : goal.returns-in-Err-Failed-clause-later
returns-in-Err-Failed-clause-later g c = rw (← c.self.view_is) (let later = c.go_on.ensures.later in omega (arith, later))

pub returns-in-Err-Failed-clause-times : goal.returns-in-Err-Failed-clause-times
returns-in-Err-Failed-clause-times g c = rw (← c.self.view_is) refl

pub returns-in-Err-Failed-clause-inner_loads : goal.returns-in-Err-Failed-clause-inner_loads
returns-in-Err-Failed-clause-inner_loads g c = rw (← c.self.view_is) c.go_on.ensures.loads

pub returns-in-Err-Memory-clause-machine : goal.returns-in-Err-Memory-clause-machine
returns-in-Err-Memory-clause-machine g c = rw (← c.self.view_is) c.go_on.ensures.machine

pub returns-in-Err-Memory-clause-loads : goal.returns-in-Err-Memory-clause-loads
returns-in-Err-Memory-clause-loads g c = rw (← c.self.view_is) refl

pub returns-in-Err-Memory-clause-later : goal.returns-in-Err-Memory-clause-later
returns-in-Err-Memory-clause-later g c = rw (← c.self.view_is) (let later = c.go_on.ensures.later in omega (arith, later))

pub returns-in-Err-Memory-clause-times : goal.returns-in-Err-Memory-clause-times
returns-in-Err-Memory-clause-times g c = rw (← c.self.view_is) refl

pub returns-in-Err-Memory-clause-inner_loads : goal.returns-in-Err-Memory-clause-inner_loads
returns-in-Err-Memory-clause-inner_loads g c = rw (← c.self.view_is) c.go_on.ensures.loads
