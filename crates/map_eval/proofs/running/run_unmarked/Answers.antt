use Rattle.std.proofs.Common.{◌≡◌, true, false}
use Rattle.map_eval.proofs.running.run_unmarked.Goals as goal

no_both : true ≡ false → ⊥
no_both e = cc

pub returns-clause-run : goal.returns-clause-run
returns-clause-run c = record {
  plan = c.requires.run.plan;
  shaped = c.run_all.ensures.shaped;
  kept = λ e. absurd (no_both e);
  due = c.requires.run.due;
  busy = c.run_all.ensures.busy;
}
