use Rattle.std.proofs.lemmas.Result.{err_from_is_err_and}
use Rattle.std.proofs.Common.{arith, refl, ◌≡◌, ◌∙◌, ◌+◌, ◌-◌, ◌^◌, min, if◌then◌else◌, Option, Some, ap, option_map, is_some}
use Rattle.rig_doubled.proofs.Vocabulary.{Machine, Narrows, RigState, shape_of, narrows_load, Kept, repeat_state, loads_taken, ended_in}
use Rattle.rig_doubled.proofs.{Endings.ended_explains, Endings.repeat_ended, Repeating.repeats_on, Repeating.taken}
use Rattle.rig_doubled.proofs.repeat_rig.RepeatRigRig.load.Goals as goal

pub invariant_of-self-2 : goal.invariant_of-self-2
invariant_of-self-2 g c =
    let shape : shape_of (g.R.Rig.rig_state c.self.inside.inner) ≡ Some c.args.config.now.config.shape = ap (λ r. shape_of (g.R.Rig.rig_state r.inner)) c.self.view_is ∙ c.requires in
    let narrows : Narrows (g.R.Rig.rig_state c.self.inside.inner) (g.R.Rig.rig_state c.load.new.self) = λ f e. c.settle.ensures.narrows f (narrows_load c.load.ensures.machine c.load.ensures.logged f e) in
    repeats_on c.self.inside.times c.in_ok-kept.kept c.args.config.now.config c.args.room (g.R.Rig.rig_state c.load.new.self) (ended_in (λ r. g.R.Rig.rig_state r) c.end.new.past.items)
    c.self.invariant.some c.in_ok-kept.ensures c.in_ok-load.ensures.begins
    (ap (λ (m : Machine). option_map (λ a. a.shape) m.attached) (c.load.ensures.machine ∙ c.settle.ensures.machine) ∙ shape)
    (ended_explains c.self.inside.stands (ended_in (λ r. g.R.Rig.rig_state r) c.self.inside.past.items) _ (g.R.Rig.rig_state c.self.inside.inner) (g.R.Rig.rig_state c.load.new.self) c.end.ensures c.self.invariant.explains narrows)

pub returns-clause-repeats : goal.returns-clause-repeats
returns-clause-repeats g c =
    let inner = g.R.Rig.rig_state c.self.inside.inner in
    let past = ended_in (λ r. g.R.Rig.rig_state r) c.self.inside.past.items in
    let kept : (if is_some c.take-kept.result then c.self.inside.times else 1) ≡ loads_taken (repeat_state inner past (record { inner = c.self.inside.inner; times = c.self.inside.times; stands = c.self.inside.stands; past = c.self.inside.past.items; loads = c.self.inside.loads; failures = c.self.inside.failures })) c.self.inside.times =
    ap (λ (k : Option Kept). if is_some k then c.self.inside.times else 1) c.take-kept.ensures.value ∙ taken c.self.inside.times c.self.inside.kept c.self.inside.stands inner past c.self.invariant in
    rw (← c.self.view_is) (c.in_ok-load.ensures.counted ∙ c.in_ok-settle.ensures.loads c.if-not-branch.false ∙ ap (λ n. min (inner.loads + n) (2 ^ 64 - 1)) kept)

pub invariant_of-self-in_err-load : goal.invariant_of-self-in_err-load
invariant_of-self-in_err-load g c =
    let state : g.row.R.Denot → RigState = λ r. g.R.Rig.rig_state r in
    let narrows : Narrows (state c.self.inside.inner) (state c.load.new.self) = λ f e. c.settle.ensures.narrows f (narrows_load c.load.ensures.machine c.load.ensures.logged f e) in
    rw c.take-kept.ensures.after (repeat_ended c.self.inside.stands (ended_in state c.self.inside.past.items) (ended_in state c.end.new.past.items) (state c.self.inside.inner) (state c.load.new.self)
    c.self.invariant.some c.end.ensures c.self.invariant.explains narrows)

pub returns-in_err-settle-clause-machine : goal.returns-in_err-settle-clause-machine
returns-in_err-settle-clause-machine g c = rw (← c.self.view_is) c.settle.ensures.machine

pub returns-in_err-settle-clause-logged : goal.returns-in_err-settle-clause-logged
returns-in_err-settle-clause-logged g c = rw (← c.self.view_is) c.end.ensures

pub returns-in_err-settle-clause-times : goal.returns-in_err-settle-clause-times
returns-in_err-settle-clause-times g c = rw (← c.self.view_is) refl

pub returns-in_err-settle-clause-ended : goal.returns-in_err-settle-clause-ended
returns-in_err-settle-clause-ended g c =
    let p = err_from_is_err_and c.from_residual.result c.from_residual.ensures.1 in
    rw p.1 refl

pub returns-in_err-settle-clause-not_counted : goal.returns-in_err-settle-clause-not_counted
returns-in_err-settle-clause-not_counted g c =
    let p = err_from_is_err_and c.from_residual.result c.from_residual.ensures.1 in
    rw (p.1, ← c.self.view_is) refl

pub returns-in_err-settle-clause-later : goal.returns-in_err-settle-clause-later
returns-in_err-settle-clause-later g c = rw (← c.self.view_is) (let later = c.settle.ensures.later in omega (arith, later))

pub returns-then-not-branch-clause-machine : goal.returns-then-not-branch-clause-machine
returns-then-not-branch-clause-machine g c = rw (← c.self.view_is) c.settle.ensures.machine

pub returns-then-not-branch-clause-logged : goal.returns-then-not-branch-clause-logged
returns-then-not-branch-clause-logged g c = rw (← c.self.view_is) c.end.ensures

pub returns-then-not-branch-clause-times : goal.returns-then-not-branch-clause-times
returns-then-not-branch-clause-times g c = rw (← c.self.view_is) refl

pub returns-then-not-branch-clause-not_counted : goal.returns-then-not-branch-clause-not_counted
returns-then-not-branch-clause-not_counted g c = rw (← c.self.view_is) refl

pub returns-in_err-kept-clause-machine : goal.returns-in_err-kept-clause-machine
returns-in_err-kept-clause-machine g c = rw (← c.self.view_is) c.settle.ensures.machine

pub returns-in_err-kept-clause-logged : goal.returns-in_err-kept-clause-logged
returns-in_err-kept-clause-logged g c = rw (← c.self.view_is) c.end.ensures

pub returns-in_err-kept-clause-times : goal.returns-in_err-kept-clause-times
returns-in_err-kept-clause-times g c = rw (← c.self.view_is) refl

pub returns-in_err-kept-clause-ended : goal.returns-in_err-kept-clause-ended
returns-in_err-kept-clause-ended g c =
    let p = err_from_is_err_and c.from_residual-in_err-kept.result c.from_residual-in_err-kept.ensures.1 in
    rw p.1 refl

pub returns-in_err-kept-clause-not_counted : goal.returns-in_err-kept-clause-not_counted
returns-in_err-kept-clause-not_counted g c =
    let p = err_from_is_err_and c.from_residual-in_err-kept.result c.from_residual-in_err-kept.ensures.1 in
    rw (p.1, ← c.self.view_is) refl

pub returns-in_err-kept-clause-later : goal.returns-in_err-kept-clause-later
returns-in_err-kept-clause-later g c = rw (← c.self.view_is) (let later = c.settle.ensures.later in omega (arith, later))

pub returns-in_err-load-clause-machine : goal.returns-in_err-load-clause-machine
returns-in_err-load-clause-machine g c = rw (← c.self.view_is) (c.load.ensures.machine ∙ c.settle.ensures.machine)

pub returns-in_err-load-clause-logged : goal.returns-in_err-load-clause-logged
returns-in_err-load-clause-logged g c = rw (← c.self.view_is) c.end.ensures

pub returns-in_err-load-clause-times : goal.returns-in_err-load-clause-times
returns-in_err-load-clause-times g c = rw (← c.self.view_is) refl

pub returns-in_err-load-clause-ended : goal.returns-in_err-load-clause-ended
returns-in_err-load-clause-ended g c =
    let p = err_from_is_err_and c.from_residual-in_err-load.result c.from_residual-in_err-load.ensures.1 in
    rw p.1 refl

pub returns-in_err-load-clause-not_counted : goal.returns-in_err-load-clause-not_counted
returns-in_err-load-clause-not_counted g c =
    let p = err_from_is_err_and c.from_residual-in_err-load.result c.from_residual-in_err-load.ensures.1 in
    rw (p.1, ← c.self.view_is) refl

pub returns-in_err-load-clause-later : goal.returns-in_err-load-clause-later
returns-in_err-load-clause-later g c = rw (← c.self.view_is) (let first = c.settle.ensures.later in let second = c.load.ensures.later in omega (arith, first, second))

pub returns-clause-machine : goal.returns-clause-machine
returns-clause-machine g c = rw (← c.self.view_is) (c.load.ensures.machine ∙ c.settle.ensures.machine)

pub returns-clause-logged : goal.returns-clause-logged
returns-clause-logged g c = rw (← c.self.view_is) c.end.ensures

pub returns-clause-times : goal.returns-clause-times
returns-clause-times g c = rw (← c.self.view_is) refl

pub returns-clause-later : goal.returns-clause-later
returns-clause-later g c = rw (← c.self.view_is) (let first = c.settle.ensures.later in let second = c.load.ensures.later in omega (arith, first, second))
