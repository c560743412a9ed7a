use Rattle.design_blif.proofs.Vocabulary.{◌≤◌, length, arith, err_from_is_err_and}
use Rattle.design_blif.proofs.DesignLemmas.{design_refused, only_memory}
use Rattle.design_blif.proofs.read.read_blif.Goals as goal

pub returns-clause-refused : goal.returns-clause-refused
returns-clause-refused c =
    let few : length c.args.bytes.now ≤ 16777216 = omega arith in
    design_refused c.args.bytes.now few c.in_ok-models.models.items c.in_ok-models.ensures.found c.flatten.result c.flatten.ensures.refused

pub returns-in_err-models-clause-only : goal.returns-in_err-models-clause-only
returns-in_err-models-clause-only c d is few =
    let p = err_from_is_err_and c.from_residual.result c.from_residual.ensures.1 in
    rw (p.1, p.2) (only_memory c.in_err-models.field-0.0 is.models (c.in_err-models.ensures.only is.models is.text))
