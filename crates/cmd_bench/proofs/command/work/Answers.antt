use Rattle.cmd_bench.proofs.Vocabulary.{◌∙◌, refl, err_from_is_err_and, nothing}
use Rattle.diag_list.proofs.Made.{shape-attached}
use Rattle.cmd_bench.proofs.Following.{unnamed, unattached, attached}
use Rattle.cmd_bench.proofs.command.work.Goals as goal

pub returns-in_err-name : goal.returns-in_err-name
returns-in_err-name g c = λ store.
    let p = err_from_is_err_and c.from_residual.result c.from_residual.ensures.1 in
    rw (p.1, p.2) (unnamed c.args.n _ _ refl)

pub returns-in_err-attach : goal.returns-in_err-attach
returns-in_err-attach g c = λ store.
    let p = err_from_is_err_and c.from_residual-in_err-attach.result c.from_residual-in_err-attach.ensures.1 in
    let e = c.in_err-attach.ensures in
    let named = c.as_str.ensures.value ∙ c.in_ok-name.ensures in
    rw (p.1, p.2) (unattached c.args.n _ _ _ c.bench_shape-shape.ensures _ named _ _ refl e.asked (e.took store _) (refl, e.loads))

pub make_and_run-requires : goal.make_and_run-requires
make_and_run-requires g c = record { shape = shape-attached _ _ _ _ (c.in_ok-attach.ensures.took nothing.store nothing.sink) }

pub returns : goal.returns
returns g c = λ store.
    let e = c.in_ok-attach.ensures in
    let named = c.as_str.ensures.value ∙ c.in_ok-name.ensures in
    let rest = rw c.loads_of-begun.ensures at c.make_and_run.ensures store in
    attached c.args.n _ _ _ c.bench_shape-shape.ensures _ named _ _ e.asked (e.took store _) (rest e.loads)
