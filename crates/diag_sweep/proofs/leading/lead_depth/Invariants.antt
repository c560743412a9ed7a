use Rattle.diag_sweep.proofs.Vocabulary.{[], in_hand}
use Rattle.diag_sweep.proofs.Holding.{HasHeld}
use Rattle.diag_sweep.proofs.leading.lead_depth.Given as goal

abbrev pub invariant-loads : goal.invariant-loads
invariant-loads g l =
    let first = (goal.Rig-dyn g (l.fn.rig.vtable, l.fn.rig.value)).rig_state l.fn.rig.value in
    let now = (goal.Rig-dyn g (l.rig.vtable, l.rig.value)).rig_state l.rig.value in
    HasHeld first now l.fn.facts l.facts l.field [] (in_hand l.fn.facts l.known l.fn.bad l.fn.state.budget first.loads) (in_hand l.facts l.known l.bad l.state.budget now.loads) l.state.held.forest
