use Rattle.diag_growth.proofs.SoFar.{HaveTriedOthers}
use Rattle.diag_growth.proofs.feet.try_others.Given as goal

abbrev pub invariant-others : goal.invariant-others
invariant-others g l =
    let rig0 = (goal.Rig-dyn g (l.fn.rig.vtable, l.fn.rig.value)).rig_state l.fn.rig.value in
    let rig = (goal.Rig-dyn g (l.rig.vtable, l.rig.value)).rig_state l.rig.value in
    HaveTriedOthers rig0 rig l.fn.facts l.facts l.known.steps l.offer l.fn.marks l.marks l.k
