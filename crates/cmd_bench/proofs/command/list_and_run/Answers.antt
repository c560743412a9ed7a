use Rattle.cmd_bench.proofs.Vocabulary.{refl, err_from_is_err_and, nothing}
use Rattle.diag_list.proofs.Made.{list-stops, list-gives, shape-listed}
use Rattle.cmd_bench.proofs.command.list_and_run.Goals as goal

pub returns-in_err-list : goal.returns-in_err-list
returns-in_err-list g c = λ store loads.
    let p = err_from_is_err_and c.from_residual.result c.from_residual.ensures.1 in
    let l = c.in_err-list.ensures in
    rw (p.1, p.2) (list-stops _ _ _ _ _ _ _ _ refl (l.took store _) loads l.machine refl)

pub run_on-requires-clause-shape : goal.run_on-requires-clause-shape
run_on-requires-clause-shape g c =
    let l = c.in_ok-list.ensures in
    shape-listed _ _ _ _ (l.took nothing.store nothing.sink) l.machine c.requires.shape

pub returns : goal.returns
returns g c = λ store loads.
    let l = c.in_ok-list.ensures in
    list-gives _ _ _ _ _ _ _ c.in_ok-list.list _ (l.took store _) loads l.machine (c.run_on.ensures store)
