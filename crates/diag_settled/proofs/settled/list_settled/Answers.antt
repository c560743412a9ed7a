use Rattle.std.proofs.{Common.refl, Common.inl, Common.inr, Common.subst, lemmas.Result.err_from_is_err_and}
use Rattle.diag_settled.specs.Settled.{HasLoadLeft}
use Rattle.diag_settled.proofs.Settling.{Settles, cycles-settled, few-settled, list-settled, list-unsettled}
use Rattle.diag_settled.proofs.settled.list_settled.Goals as goal

pub returns-in_err-list-clause-took : goal.returns-in_err-list-clause-took
returns-in_err-list-clause-took g c =
    let p = err_from_is_err_and c.from_residual.result c.from_residual.ensures.1 in
    λ store sink. rw (p.1, p.2) (c.in_err-list.ensures.took store sink)

pub returns-in-Ok-clause-loads : goal.returns-in-Ok-clause-loads
returns-in-Ok-clause-loads g c =
    let e = c.in-Ok.ensures in
    let box0 = c.args.rig.now in
    let r0 = (goal.Rig-dyn g (box0.vtable, box0.value)).rig_state box0.value in
    let box1 = c.list_of.new.rig in
    let r1 = (goal.Rig-dyn g (box1.vtable, box1.value)).rig_state box1.value in
    let box2 = c.settle.new.rig in
    let r2 = (goal.Rig-dyn g (box2.vtable, box2.value)).rig_state box2.value in
    let settles : Settles r1 r2 = record { machine = e.machine; later = e.later; narrows = e.narrows; tells = e.tells; once = inr e.counted; cycles = e.made } in
    let left : HasLoadLeft c.args.shape.now r0.loads r1.loads = subst (λ n. HasLoadLeft c.args.shape.now r0.loads n) c.loads_of-now.ensures
    (subst (λ n. HasLoadLeft c.args.shape.now n c.loads_of-now.result) c.loads_of-before.ensures (c.if-not-has_load_left.ensures refl)) in
    few-settled r1 r2 settles c.args.shape.now r0 left c.in_ok-list.ensures.loads

pub returns-in-Ok-clause-took : goal.returns-in-Ok-clause-took
returns-in-Ok-clause-took g c =
    let e = c.in-Ok.ensures in
    let box0 = c.args.rig.now in
    let r0 = (goal.Rig-dyn g (box0.vtable, box0.value)).rig_state box0.value in
    let box1 = c.list_of.new.rig in
    let r1 = (goal.Rig-dyn g (box1.vtable, box1.value)).rig_state box1.value in
    let box2 = c.settle.new.rig in
    let r2 = (goal.Rig-dyn g (box2.vtable, box2.value)).rig_state box2.value in
    let settles : Settles r1 r2 = record { machine = e.machine; later = e.later; narrows = e.narrows; tells = e.tells; once = inr e.counted; cycles = e.made } in
    let left : HasLoadLeft c.args.shape.now r0.loads r1.loads = subst (λ n. HasLoadLeft c.args.shape.now r0.loads n) c.loads_of-now.ensures
    (subst (λ n. HasLoadLeft c.args.shape.now n c.loads_of-now.result) c.loads_of-before.ensures (c.if-not-has_load_left.ensures refl)) in
    λ store sink. list-settled r1 r2 settles c.args.shape.now r0 left store sink c.in_ok-list.list (c.in_ok-list.ensures.took store sink)

pub returns-in-Err-clause-took : goal.returns-in-Err-clause-took
returns-in-Err-clause-took g c =
    let e = c.in-Err.ensures in
    let box0 = c.args.rig.now in
    let r0 = (goal.Rig-dyn g (box0.vtable, box0.value)).rig_state box0.value in
    let box1 = c.list_of.new.rig in
    let r1 = (goal.Rig-dyn g (box1.vtable, box1.value)).rig_state box1.value in
    let box2 = c.settle.new.rig in
    let r2 = (goal.Rig-dyn g (box2.vtable, box2.value)).rig_state box2.value in
    let settles : Settles r1 r2 = record { machine = e.machine; later = e.later; narrows = e.narrows; tells = e.tells; once = inl e.not_counted; cycles = e.made } in
    let left : HasLoadLeft c.args.shape.now r0.loads r1.loads = subst (λ n. HasLoadLeft c.args.shape.now r0.loads n) c.loads_of-now.ensures
    (subst (λ n. HasLoadLeft c.args.shape.now n c.loads_of-now.result) c.loads_of-before.ensures (c.if-not-has_load_left.ensures refl)) in
    λ store sink. rw c.from.ensures (list-unsettled r1 r2 settles c.args.shape.now r0 left store sink c.in_ok-list.list (c.in_ok-list.ensures.took store sink) c.in-Err.fail e.refused)
