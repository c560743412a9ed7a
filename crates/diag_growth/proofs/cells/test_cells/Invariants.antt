use Rattle.diag_growth.proofs.Tested.{HasTestedCells}
use Rattle.diag_growth.proofs.cells.test_cells.Given as goal

abbrev pub invariant-cells : goal.invariant-cells
invariant-cells g l =
    let rig0 = (goal.Rig-dyn g (l.fn.rig.vtable, l.fn.rig.value)).rig_state l.fn.rig.value in
    let rig = (goal.Rig-dyn g (l.rig.vtable, l.rig.value)).rig_state l.rig.value in
    HasTestedCells rig0 rig l.fn.facts l.facts l.seat l.address
