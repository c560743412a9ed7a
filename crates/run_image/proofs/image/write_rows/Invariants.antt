use Rattle.run_image.proofs.Vocabulary.{◌-◌, most_vector_bytes, outside}
use Rattle.run_image.proofs.RowLemmas.{IsDriving}
use Rattle.run_image.proofs.image.write_rows.Given as goal

abbrev pub invariant-file : goal.invariant-file
invariant-file g l =
    let store_state = g.S.Store.store_state in
    let sink_state = g.K.Sink.sink_state in
    let rig0 = (goal.Rig-dyn g (l.fn.rig.vtable, l.fn.rig.value)).rig_state l.fn.rig.value in
    let rig = (goal.Rig-dyn g (l.rig.vtable, l.rig.value)).rig_state l.rig.value in
    IsDriving l.fn.rows.copies l.fn.rows.image (outside (store_state l.fn.store) rig0 (sink_state l.fn.sink)) l.rows (outside (store_state l.store) rig (sink_state l.sink))

abbrev pub decreases-file : goal.decreases-file
decreases-file g l = most_vector_bytes - l.rows.vectors.at
