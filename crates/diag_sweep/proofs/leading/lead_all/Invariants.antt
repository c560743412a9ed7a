use Rattle.diag_sweep.proofs.Vocabulary.{[], hand_of}
use Rattle.diag_sweep.proofs.Going.{HasGone}
use Rattle.diag_sweep.proofs.leading.lead_all.Given as goal

abbrev pub invariant-depths : goal.invariant-depths
invariant-depths g l =
    let first = (goal.Rig-dyn g (l.fn.rig.vtable, l.fn.rig.value)).rig_state l.fn.rig.value in
    let now = (goal.Rig-dyn g (l.rig.vtable, l.rig.value)).rig_state l.rig.value in
    HasGone first now l.fn.knowledge.facts l.knowledge.facts l.field [] (hand_of l.fn.knowledge l.fn.state.budget first.loads) (hand_of l.knowledge l.state.budget now.loads)
