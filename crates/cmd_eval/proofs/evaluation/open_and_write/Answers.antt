use Rattle.cmd_eval.proofs.Vocabulary.{◌∙◌, refl, ap, err_from_is_err_and, nothing, opening-stops, outputs-stops, rows-then}
use Rattle.cmd_steps.proofs.StartLemmas.{begun-file}
use Rattle.cmd_eval.proofs.evaluation.open_and_write.Goals as goal

pub returns-in_err-open_vectors : goal.returns-in_err-open_vectors
returns-in_err-open_vectors g c =
    let p = err_from_is_err_and c.from_residual.result c.from_residual.ensures.1 in
    let a = g.K.Sink.sink_state c.args.sink.now in
    λ begun files rig same stands.
    let told = ap (λ contents. contents c.args.vectors.now) same in
    rw (p.1, p.2) (opening-stops _ _ files begun _ _ _ told stands _ _ _ _ refl (c.in_err-open_vectors.ensures.took rig a) tt)

pub returns-in_err-write : goal.returns-in_err-write
returns-in_err-write g c =
    let p = err_from_is_err_and c.from_residual-in_err-write.result c.from_residual-in_err-write.ensures.1 in
    let a = g.K.Sink.sink_state c.args.sink.now in
    let opened = c.in_ok-open_vectors.ensures in
    λ begun files rig same stands.
    let told = ap (λ contents. contents c.args.vectors.now) same in
    rw (p.1, p.2) (outputs-stops _ _ files begun _ _ _ told stands _ (opened.took rig a) _ _ _ _ refl c.in_err-write.ensures.puts opened.begun tt)

pub write_rows-requires-clause-begun : goal.write_rows-requires-clause-begun
write_rows-requires-clause-begun g c =
    let opened = c.in_ok-open_vectors.ensures in
    let took = opened.took nothing.rig (g.K.Sink.sink_state c.args.sink.now) in
    (c.args.vectors.now, opened.begun, rw took.later.contents took.gives, opened.unread)

pub returns : goal.returns
returns g c =
    let a = g.K.Sink.sink_state c.args.sink.now in
    let s1 = g.S.Store.store_state c.open_vectors.new.store in
    let opened = c.in_ok-open_vectors.ensures in
    λ begun files rig same stands.
    let told = ap (λ contents. contents c.args.vectors.now) same in
    let took = opened.took rig a in
    let file = begun-file s1 begun.contents c.args.vectors.now (took.later.contents ∙ same) opened.begun in
    rows-then _ _ files begun _ _ _ told stands _ took _ _ _ _ _ _ c.in_ok-write.ensures.puts (rw file at (c.write_rows.ensures rig)) tt
