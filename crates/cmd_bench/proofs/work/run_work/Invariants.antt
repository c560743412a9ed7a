use Rattle.cmd_bench.proofs.Vocabulary.{◌≡◌, pins_in}
use Rattle.cmd_bench.proofs.RunLemmas.{IsRunning}
use Rattle.cmd_bench.proofs.work.run_work.Given as goal

abbrev pub invariant-rows : goal.invariant-rows
invariant-rows g l =
    let rig0 = (goal.Rig-dyn g (l.fn.rig.vtable, l.fn.rig.value)).rig_state l.fn.rig.value in
    let rig = (goal.Rig-dyn g (l.rig.vtable, l.rig.value)).rig_state l.rig.value in
    IsRunning l.fn.n l.fn.image rig0 rig l.k l.ones × (l.run ≡ pins_in l.fn.image)
