use Rattle.diag_sweep.proofs.Budgets.{settled_none, settled_on}
use Rattle.diag_sweep.proofs.turns.settle_hangs.Goals as goal

pub hangs-init : goal.hangs-init
hangs-init c = settled_none c.requires.budget

pub hangs-preserved : goal.hangs-preserved
hangs-preserved c = settled_on (settled_on c.hangs.invariant c.settle.ensures) c.settle-in-hangs.ensures
