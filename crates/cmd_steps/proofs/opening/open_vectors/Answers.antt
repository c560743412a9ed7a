use Rattle.std.proofs.lemmas.Result.{err_from_is_err_and}
use Rattle.cmd_steps.proofs.StartLemmas.{start-took, start-taken}
use Rattle.cmd_steps.proofs.opening.open_vectors.Goals as goal

pub returns-clause-took : goal.returns-clause-took
returns-clause-took g c =
    let e = c.in_ok-start.ensures in
    λ rig sink. start-took c.args.name.now _ _ _ rig sink e.contents e.later e.asked e.opened e.present

pub returns-in_err-start-clause-took : goal.returns-in_err-start-clause-took
returns-in_err-start-clause-took g c =
    let p = err_from_is_err_and c.from_residual.result c.from_residual.ensures.1 in
    let e = c.in_err-start.ensures in
    λ rig sink. rw (p.1, p.2) (start-taken c.args.name.now _ _ _ rig sink _ e.contents e.later e.refused)
