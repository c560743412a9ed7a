use Rattle.cmd_check.proofs.Vocabulary.{refl, rig-took, rig-fails}
use Rattle.cmd_check.proofs.Following.{fewer-under, sound-under, ways-under, whole-under}
use Rattle.cmd_check.proofs.testing.test.Goals as goal

pub returns-in-Ok-clause-took : goal.returns-in-Ok-clause-took
returns-in-Ok-clause-took g c =
    let e = c.in-Ok.ensures in
    let box0 = c.args.rig.now in
    let r0 = (goal.Rig-dyn g (box0.vtable, box0.value)).rig_state box0.value in
    let box1 = c.quick_check.new.rig in
    let r1 = (goal.Rig-dyn g (box1.vtable, box1.value)).rig_state box1.value in
    λ store sink. rig-took _ r0 r1 store sink e.machine e.narrows e.tells e.later c.in-Ok.sound
    (record {
      sound = sound-under r1 e.sound_each;
      whole = whole-under r1 e.whole_each;
      ways = ways-under r1 e.whole_each;
      few = e.loads;
      fewer = fewer-under r1 e.few_each;
    })

pub returns-in-Err-clause-took : goal.returns-in-Err-clause-took
returns-in-Err-clause-took g c =
    let e = c.in-Err.ensures in
    let box0 = c.args.rig.now in
    let r0 = (goal.Rig-dyn g (box0.vtable, box0.value)).rig_state box0.value in
    let box1 = c.quick_check.new.rig in
    let r1 = (goal.Rig-dyn g (box1.vtable, box1.value)).rig_state box1.value in
    λ store sink. rw c.from.ensures (rig-fails _ r0 r1 store sink e.machine e.narrows e.tells e.later c.in-Err.fail
    (λ is. e.cause (rw is refl)) (λ _ fails. (fails, e.loads)))
