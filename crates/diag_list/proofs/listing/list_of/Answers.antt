use Rattle.std.proofs.Common.{refl}
use Rattle.diag_list.proofs.ListedLemmas.{diagnosis-on, few-on, list-took, list-stopped}
use Rattle.diag_list.proofs.listing.list_of.Goals as goal

pub returns-in-Ok-clause-loads : goal.returns-in-Ok-clause-loads
returns-in-Ok-clause-loads g c =
    let e = c.in-Ok.ensures in
    let box0 = c.args.rig.now in
    let r0 = (goal.Rig-dyn g (box0.vtable, box0.value)).rig_state box0.value in
    let box1 = c.diagnose.new.rig in
    let r1 = (goal.Rig-dyn g (box1.vtable, box1.value)).rig_state box1.value in
    few-on c.args.shape.now r0 r1 e.loads_each e.loads

pub returns-in-Err-clause-loads : goal.returns-in-Err-clause-loads
returns-in-Err-clause-loads g c =
    let e = c.in-Err.ensures in
    let box0 = c.args.rig.now in
    let r0 = (goal.Rig-dyn g (box0.vtable, box0.value)).rig_state box0.value in
    let box1 = c.diagnose.new.rig in
    let r1 = (goal.Rig-dyn g (box1.vtable, box1.value)).rig_state box1.value in
    few-on c.args.shape.now r0 r1 e.loads_each e.loads

pub returns-in-Ok-clause-took : goal.returns-in-Ok-clause-took
returns-in-Ok-clause-took g c =
    let e = c.in-Ok.ensures in
    let box0 = c.args.rig.now in
    let r0 = (goal.Rig-dyn g (box0.vtable, box0.value)).rig_state box0.value in
    let box1 = c.diagnose.new.rig in
    let r1 = (goal.Rig-dyn g (box1.vtable, box1.value)).rig_state box1.value in
    λ store sink. list-took c.args.shape.now r0 r1 e.machine e.narrows e.tells store sink c.in-Ok.list e.later e.shape c.shape.ensures.kept (diagnosis-on c.args.shape.now r1 c.in-Ok.list e.right_each) (few-on c.args.shape.now r0 r1 e.loads_each e.loads)

pub returns-in-Err-clause-took : goal.returns-in-Err-clause-took
returns-in-Err-clause-took g c =
    let e = c.in-Err.ensures in
    let box0 = c.args.rig.now in
    let r0 = (goal.Rig-dyn g (box0.vtable, box0.value)).rig_state box0.value in
    let box1 = c.diagnose.new.rig in
    let r1 = (goal.Rig-dyn g (box1.vtable, box1.value)).rig_state box1.value in
    λ store sink. rw c.from.ensures (list-stopped c.args.shape.now r0 r1 e.machine e.narrows e.tells store sink c.in-Err.fail e.later (λ is. e.cause (rw is refl)) (few-on c.args.shape.now r0 r1 e.loads_each e.loads))
