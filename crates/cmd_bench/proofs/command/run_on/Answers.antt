use Rattle.cmd_bench.proofs.Vocabulary.{◌∙◌, length, Some, refl, sym, ap, err_from_is_err_and, Shape, NetlistData, nothing}
use Rattle.cmd_steps.proofs.Keeping.{kept-stops, kept-gives, line-kept}
use Rattle.cmd_bench.proofs.Headlines.{summary-is}
use Rattle.cmd_bench.proofs.command.run_on.Goals as goal

pub returns-in_err-image : goal.returns-in_err-image
returns-in_err-image g c = λ store.
    let p = err_from_is_err_and c.from_residual.result c.from_residual.ensures.1 in
    rw (p.1, p.2) (kept-stops _ _ _ _ _ _ _ _ refl (c.in_err-image.ensures.took _) (λ s. s) (refl, refl) refl)

pub run_work-requires : goal.run_work-requires
run_work-requires g c =
    let laid = (c.in_ok-image.ensures.took nothing).gives.0 in
    record {
      shape = c.requires.shape ∙ ap (λ (m : Shape). Some m) (sym laid.shape);
      one = laid.inputs ∙ ap (λ (d : NetlistData). length d.inputs) c.requires.netlist;
      two = laid.outputs ∙ ap (λ (d : NetlistData). length d.outputs) c.requires.netlist;
    }

pub returns-in_err-ones : goal.returns-in_err-ones
returns-in_err-ones g c = λ store.
    let p = err_from_is_err_and c.from_residual-in_err-ones.result c.from_residual-in_err-ones.ensures.1 in
    let e = c.in_err-ones.ensures in
    rw (p.1, p.2) (kept-gives _ _ _ _ _ c.in_ok-image.image _ _ _ _ (c.in_ok-image.ensures.took _) (λ s. s) refl (kept-stops _ _ _ _ _ _ _ _ refl (e.took store _) (λ s. s) refl e.machine))

pub returns : goal.returns
returns g c = λ store.
    let laws = c.generated_faults_leave_room.ensures in
    let e = c.in_ok-ones.ensures in
    let puts = rw (c.as_bytes.ensures.value, c.deref.ensures.0, c.summary-text.ensures, c.saturating_sub.ensures, c.loads_of.ensures) at c.write.ensures.puts in
    kept-gives _ _ _ _ _ c.in_ok-image.image _ _ _ _ (c.in_ok-image.ensures.took _) (λ s. s) refl
    (kept-gives _ _ _ _ _ c.in_ok-ones.ones _ _ _ _ (e.took store _) (λ s. s) e.machine
    (line-kept _ _ store _ _ _ _ (rw (summary-is laws.tables laws.nets c.args.task.now.n c.args.task.now.netlist.now c.in_ok-ones.ones _ c.requires.netlist) puts) refl))
