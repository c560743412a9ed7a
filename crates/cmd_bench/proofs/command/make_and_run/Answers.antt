use Rattle.cmd_bench.proofs.Vocabulary.{refl, err_from_is_err_and}
use Rattle.cmd_steps.proofs.Keeping.{kept-stops, kept-gives}
use Rattle.cmd_bench.proofs.command.make_and_run.Goals as goal

pub returns-in_err-netlist : goal.returns-in_err-netlist
returns-in_err-netlist g c = λ store loads.
    let p = err_from_is_err_and c.from_residual.result c.from_residual.ensures.1 in
    rw (p.1, p.2) (kept-stops _ _ _ _ _ _ _ _ refl (c.in_err-netlist.ensures.took _) (λ s. s) (refl, loads) refl)

pub returns : goal.returns
returns g c = λ store loads.
    kept-gives _ _ _ _ _ c.in_ok-netlist.netlist _ _ _ _ (c.in_ok-netlist.ensures.took _) (λ s. s) refl
    (c.list_and_run.ensures store loads)
