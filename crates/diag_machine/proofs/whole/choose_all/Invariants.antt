use Rattle.diag_machine.proofs.Choosing.{HasChosen}
use Rattle.diag_machine.proofs.whole.choose_all.Given as goal

abbrev pub invariant-choices : goal.invariant-choices
invariant-choices g l =
    let first = (goal.Rig-dyn g (l.fn.rig.vtable, l.fn.rig.value)).rig_state l.fn.rig.value in
    let now = (goal.Rig-dyn g (l.rig.vtable, l.rig.value)).rig_state l.rig.value in
    HasChosen first now l.fn.knowledge l.knowledge l.fn.state l.state
