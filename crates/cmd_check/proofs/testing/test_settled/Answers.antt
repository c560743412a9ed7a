use Rattle.cmd_check.proofs.Vocabulary.{◌*◌, ◌-◌, ◌<◌, refl, inl, inr, subst, took-lacks, Settles, size_of, HasTestLeft, tests_now}
use Rattle.std.proofs.lemmas.Result.{err_from_is_err_and}
use Rattle.cmd_check.proofs.Settling.{test-left, test-settled, test-unsettled}
use Rattle.cmd_check.proofs.testing.test_settled.Goals as goal

pub returns-in_err-sound-clause-took : goal.returns-in_err-sound-clause-took
returns-in_err-sound-clause-took g c =
    let p = err_from_is_err_and c.from_residual.result c.from_residual.ensures.1 in
    λ store sink. rw (p.1, p.2) (c.in_err-sound.ensures.took store sink)

pub returns-in_err-used-clause-took : goal.returns-in_err-used-clause-took
returns-in_err-used-clause-took g c =
    let p = err_from_is_err_and c.from_residual-in_err-used.result c.from_residual-in_err-used.ensures.1 in
    let box0 = c.args.rig.now in
    let r0 = (goal.Rig-dyn g (box0.vtable, box0.value)).rig_state box0.value in
    let box1 = c.test.new.rig in
    let r1 = (goal.Rig-dyn g (box1.vtable, box1.value)).rig_state box1.value in
    let step = tests_now c.args.image.now r0 r1 in
    λ store sink.
    let took = c.in_ok-sound.ensures.took store sink in
    rw (p.1, p.2) (took-lacks step step _ c.in_ok-sound.sound _ _ took (tt, took.gives.few))

pub returns-in-Ok-clause-took : goal.returns-in-Ok-clause-took
returns-in-Ok-clause-took g c =
    let box0 = c.args.rig.now in
    let r0 = (goal.Rig-dyn g (box0.vtable, box0.value)).rig_state box0.value in
    let box1 = c.test.new.rig in
    let r1 = (goal.Rig-dyn g (box1.vtable, box1.value)).rig_state box1.value in
    let box2 = c.settle.new.rig in
    let r2 = (goal.Rig-dyn g (box2.vtable, box2.value)).rig_state box2.value in
    let e = c.in-Ok.ensures in
    let settles : Settles r1 r2 = record { machine = e.machine; later = e.later; narrows = e.narrows; tells = e.tells; once = inr e.counted; cycles = e.made } in
    let u = c.in_ok-used.used in
    let left : HasTestLeft c.args.image.now r0.loads r1.loads = test-left c.args.image.now u r0.loads r1.loads c.in_ok-used.ensures.used
    (subst (λ n. n - r0.loads < 256 * size_of u) c.loads_of-now.ensures (subst (λ n. c.loads_of-now.result - n < 256 * size_of u) c.loads_of-before.ensures (c.if-not-has_test_left.ensures refl))) in
    λ store sink. test-settled c.args.image.now r0 r1 r2 settles left store sink c.in_ok-sound.sound (c.in_ok-sound.ensures.took store sink)

pub returns-clause-took : goal.returns-clause-took
returns-clause-took g c =
    let box0 = c.args.rig.now in
    let r0 = (goal.Rig-dyn g (box0.vtable, box0.value)).rig_state box0.value in
    let box1 = c.test.new.rig in
    let r1 = (goal.Rig-dyn g (box1.vtable, box1.value)).rig_state box1.value in
    let box2 = c.settle.new.rig in
    let r2 = (goal.Rig-dyn g (box2.vtable, box2.value)).rig_state box2.value in
    let e = c.in-Err.ensures in
    let settles : Settles r1 r2 = record { machine = e.machine; later = e.later; narrows = e.narrows; tells = e.tells; once = inl e.not_counted; cycles = e.made } in
    let u = c.in_ok-used.used in
    let left : HasTestLeft c.args.image.now r0.loads r1.loads = test-left c.args.image.now u r0.loads r1.loads c.in_ok-used.ensures.used
    (subst (λ n. n - r0.loads < 256 * size_of u) c.loads_of-now.ensures (subst (λ n. c.loads_of-now.result - n < 256 * size_of u) c.loads_of-before.ensures (c.if-not-has_test_left.ensures refl))) in
    λ store sink. rw c.from.ensures (test-unsettled c.args.image.now r0 r1 r2 settles left store sink c.in_ok-sound.sound (c.in_ok-sound.ensures.took store sink) c.in-Err.fail e.refused)
