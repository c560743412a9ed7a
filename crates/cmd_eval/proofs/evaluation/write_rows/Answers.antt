use Rattle.cmd_eval.proofs.Vocabulary.{refl, err_from_is_err_and, nothing}
use Rattle.cmd_eval.proofs.RowLemmas.{running-start, running-more, read-stops, row-stops, file-ends}
use Rattle.cmd_eval.proofs.evaluation.write_rows.Goals as goal

pub file-init : goal.file-init
file-init g c = running-start _ c.args.rows.now _ _ c.requires.ready c.requires.begun

pub next_row-requires-clause-begun : goal.next_row-requires-clause-begun
next_row-requires-clause-begun g c = rw (c.file.invariant.written nothing.rig).taking.place refl

pub file-preserved : goal.file-preserved
file-preserved g c =
    let n = c.in_ok-next_row.ensures in
    let w = c.in_ok-add_row.ensures in
    let takes = rw c.if-branch.true at n.gives in
    running-more _ _ _ c.file.rows c.next_row.new.rows _ _ _ _ c.file.invariant n.stays takes c.add_row.new.rows _ w.eval w.vectors w.sized w.waits

pub returns-in_err-next_row : goal.returns-in_err-next_row
returns-in_err-next_row g c =
    let p = err_from_is_err_and c.from_residual.result c.from_residual.ensures.1 in
    let n = c.in_err-next_row.ensures in
    λ rig. rw (p.1, p.2) (read-stops _ _ _ c.file.rows c.next_row.new.rows _ _ _ _ c.file.invariant n.stays rig _ n.refused)

pub returns-in_err-add_row : goal.returns-in_err-add_row
returns-in_err-add_row g c =
    let p = err_from_is_err_and c.from_residual-in_err-add_row.result c.from_residual-in_err-add_row.ensures.1 in
    let n = c.in_ok-next_row.ensures in
    let takes = rw c.if-branch.true at n.gives in
    λ rig. rw (p.1, p.2) (row-stops _ _ _ c.file.rows c.next_row.new.rows _ _ _ _ c.file.invariant n.stays takes rig _ _ _ c.in_err-add_row.ensures.waits)

pub returns : goal.returns
returns g c =
    let n = c.in_ok-next_row.ensures in
    let gives = rw c.if-branch.false at n.gives in
    λ rig. file-ends _ _ _ c.file.rows c.next_row.new.rows _ _ _ _ c.file.invariant n.stays rig gives
