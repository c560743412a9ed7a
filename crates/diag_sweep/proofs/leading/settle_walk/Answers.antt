use Rattle.diag_sweep.proofs.Budgets.{settled_none, settled_on}
use Rattle.diag_sweep.proofs.leading.settle_walk.Goals as goal

pub crosses-init : goal.crosses-init
crosses-init c = settled_none c.requires.budget

pub crosses-preserved : goal.crosses-preserved
crosses-preserved c = settled_on c.crosses.invariant c.settle.ensures
