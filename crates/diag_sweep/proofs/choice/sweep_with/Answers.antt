use Rattle.diag_sweep.proofs.Chosen.{worth_none, worth_paid}
use Rattle.diag_sweep.proofs.Cohering.{hand_coherent, progress_goes, progress_itself}
use Rattle.diag_sweep.proofs.choice.sweep_with.Goals as goal

pub sweep_again-requires-clause-hand : goal.sweep_again-requires-clause-hand
sweep_again-requires-clause-hand g c = hand_coherent c.requires.coherent c.requires.field c.in-Ok.ensures.len

pub returns-in_default-clause-progress : goal.returns-in_default-clause-progress
returns-in_default-clause-progress g c = progress_itself _ c.requires.coherent

pub returns-in_err-sweep_again-clause-progress : goal.returns-in_err-sweep_again-clause-progress
returns-in_err-sweep_again-clause-progress g c = progress_goes c.sweep_again.ensures.goes c.sweep_again.ensures.advances

pub returns-clause-progress : goal.returns-clause-progress
returns-clause-progress g c = progress_goes c.sweep_again.ensures.goes c.sweep_again.ensures.advances

pub returns-in_err-sweep_again-clause-pays : goal.returns-in_err-sweep_again-clause-pays
returns-in_err-sweep_again-clause-pays g c = worth_none _ c.open_purse.new.self.left c.sweep_again.ensures.goes.hand (c.sweep_again.ensures.goes.funded _ c.in-Ok.ensures.funded) c.open_purse.ensures.left

pub returns-clause-pays : goal.returns-clause-pays
returns-clause-pays g c = worth_paid _ c.close_purse.new.self.left c.sweep_again.ensures.goes.hand (c.sweep_again.ensures.goes.funded _ c.in-Ok.ensures.funded) c.close_purse.ensures.left
