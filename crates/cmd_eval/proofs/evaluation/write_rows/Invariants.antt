use Rattle.cmd_eval.proofs.Vocabulary.{◌-◌, most_vector_bytes}
use Rattle.cmd_eval.proofs.RowLemmas.{IsRunning}
use Rattle.cmd_eval.proofs.evaluation.write_rows.Given as goal

abbrev pub invariant-file : goal.invariant-file
invariant-file g l =
    let store_state = g.S.Store.store_state in
    let sink_state = g.K.Sink.sink_state in
    IsRunning l.fn.rows.eval.netlist (store_state l.fn.store) (sink_state l.fn.sink) l.rows (store_state l.store) (sink_state l.sink)

abbrev pub decreases-file : goal.decreases-file
decreases-file g l = most_vector_bytes - l.rows.vectors.at
