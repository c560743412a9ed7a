use Rattle.diag_growth.proofs.SoFar.{HasGrown}
use Rattle.diag_growth.proofs.rounds.grow_tried.Given as goal

abbrev pub invariant-pins : goal.invariant-pins
invariant-pins g l =
    let rig0 = (goal.Rig-dyn g (l.fn.rig.vtable, l.fn.rig.value)).rig_state l.fn.rig.value in
    let rig = (goal.Rig-dyn g (l.rig.vtable, l.rig.value)).rig_state l.rig.value in
    HasGrown rig0 rig l.fn.facts l.facts l.field l.fn.known l.known l.marks l.pin
