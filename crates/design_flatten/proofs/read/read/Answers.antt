use Rattle.std.proofs.lemmas.Result.{err_from_is_err_and}
use Rattle.design_flatten.proofs.read.read.Goals as goal

pub returns-in_err-found-clause-only : goal.returns-in_err-found-clause-only
returns-in_err-found-clause-only c d is checked =
    let p = err_from_is_err_and c.from_residual.result c.from_residual.ensures.1 in
    rw (p.1, p.2) (c.in_err-found.ensures.only d is)
