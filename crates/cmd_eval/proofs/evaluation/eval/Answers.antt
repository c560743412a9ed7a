use Rattle.cmd_eval.proofs.Vocabulary.{◌≡◌, [], ◌∷◌, refl, err_from_is_err_and, reads_design, Design, design_evaluated}
use Rattle.cmd_steps.proofs.Reading.{none-read, file-stops, file-gives}
use Rattle.cmd_eval.proofs.EvalLaws.{eval-lawful}
use Rattle.cmd_eval.proofs.evaluation.eval.Goals as goal

pub returns-in_err-netlist-clause-lawful : goal.returns-in_err-netlist-clause-lawful
returns-in_err-netlist-clause-lawful g c = eval-lawful c.args.design.now c.args.vectors.now

pub returns-clause-lawful : goal.returns-clause-lawful
returns-clause-lawful g c = eval-lawful c.args.design.now c.args.vectors.now

pub returns-in_err-netlist-clause-does : goal.returns-in_err-netlist-clause-does
returns-in_err-netlist-clause-does g c =
    let p = err_from_is_err_and c.from_residual.result c.from_residual.ensures.1 in
    let s0 = g.S.Store.store_state c.args.store.now in
    let s1 = g.S.Store.store_state c.read_design.new.store in
    let rest = design_evaluated c.args.vectors.now (c.args.design.now ∷ []) s0 s1 in
    λ rig. rw (p.1, p.2) (file-stops (reads_design Design) _ [] s0 rest _ (rig ≡ rig) _ _ _ _ refl (none-read s0) (c.in_err-netlist.ensures.took rig (g.K.Sink.sink_state c.args.sink.now)) refl)

pub returns-clause-does : goal.returns-clause-does
returns-clause-does g c =
    let s0 = g.S.Store.store_state c.args.store.now in
    let s2 = g.S.Store.store_state c.evaluate.new.store in
    let rest = design_evaluated c.args.vectors.now (c.args.design.now ∷ []) s0 s2 in
    λ rig.
    let took = c.in_ok-netlist.ensures.took rig (g.K.Sink.sink_state c.args.sink.now) in
    file-gives (reads_design Design) _ [] s0 rest s2 _ (rig ≡ rig) _ _ _ _ _ _ (none-read s0) took (c.evaluate.ensures s0 (c.args.design.now ∷ []) rig took.later.contents took.place) refl
