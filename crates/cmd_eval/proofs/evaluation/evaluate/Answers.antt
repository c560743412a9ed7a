use Rattle.cmd_eval.proofs.Vocabulary.{refl, ap, err_from_is_err_and, opening-lacks}
use Rattle.cmd_eval.proofs.evaluation.evaluate.Goals as goal

pub returns-in_err-rows : goal.returns-in_err-rows
returns-in_err-rows g c =
    let p = err_from_is_err_and c.from_residual.result c.from_residual.ensures.1 in
    λ begun files rig same stands.
    let told = ap (λ contents. contents c.args.vectors.now) same in
    rw (p.1, p.2) (opening-lacks _ _ files begun _ _ _ told stands _ refl)

pub returns : goal.returns
returns g c = λ begun files rig same stands. rw c.in_ok-rows.ensures.eval.netlist at (c.open_and_write.ensures begun files rig same stands)
