use Rattle.diag_sweep.specs.Stages.{hand_of}
use Rattle.diag_sweep.proofs.Tabled.{HasTested}
use Rattle.diag_sweep.proofs.tabling.test_tables.Given as goal

abbrev pub invariant-nodes : goal.invariant-nodes
invariant-nodes g l =
    let first = (goal.Rig-dyn g (l.fn.rig.vtable, l.fn.rig.value)).rig_state l.fn.rig.value in
    let now = (goal.Rig-dyn g (l.rig.vtable, l.rig.value)).rig_state l.rig.value in
    HasTested first now l.fn.knowledge.facts l.knowledge.facts l.field l.fn.table_sweep.tables.items (hand_of l.fn.knowledge l.fn.table_sweep.state.budget first.loads) (hand_of l.knowledge l.table_sweep.state.budget now.loads) l.fn.table_sweep.tables l.table_sweep.tables l.table_sweep.state.held.forest
