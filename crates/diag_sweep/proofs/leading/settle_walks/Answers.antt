use Rattle.diag_sweep.proofs.Budgets.{settled_none, settled_on}
use Rattle.diag_sweep.proofs.leading.settle_walks.Goals as goal

pub trials-init : goal.trials-init
trials-init c = settled_none c.requires.budget

pub trials-preserved : goal.trials-preserved
trials-preserved c = settled_on c.trials.invariant c.settle_walk.ensures
