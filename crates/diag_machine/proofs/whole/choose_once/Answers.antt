use Rattle.diag_machine.proofs.Vocabulary.{◌∙◌}
use Rattle.diag_machine.proofs.Sweeping.{at_most, field_later}
use Rattle.diag_sweep.proofs.Cohering.{but_pairs, but_then}
use Rattle.diag_machine.proofs.whole.choose_once.Goals as goal

pub sweep_with-requires-clause-coherent : goal.sweep_with-requires-clause-coherent
sweep_with-requires-clause-coherent g c = c.choose.ensures.progress.coherent

pub sweep_with-requires-clause-field : goal.sweep_with-requires-clause-field
sweep_with-requires-clause-field g c = field_later c.choose.ensures.progress.advances.more c.requires.field

pub returns-in_err-sweep_with-clause-pays : goal.returns-in_err-sweep_with-clause-pays
returns-in_err-sweep_with-clause-pays g c = at_most c.sweep_with.ensures.pays c.choose.ensures.pays

pub returns-clause-pays : goal.returns-clause-pays
returns-clause-pays g c = at_most c.sweep_with.ensures.pays c.choose.ensures.pays

pub returns-in_err-sweep_with-clause-paid : goal.returns-in_err-sweep_with-clause-paid
returns-in_err-sweep_with-clause-paid g c = c.sweep_with.ensures.paid ∙ c.choose.ensures.paid

pub returns-clause-paid : goal.returns-clause-paid
returns-clause-paid g c = c.sweep_with.ensures.paid ∙ c.choose.ensures.paid

pub returns-in_err-choose-clause-progress : goal.returns-in_err-choose-clause-progress
returns-in_err-choose-clause-progress g c = c.choose.ensures.progress

pub returns-then-not-branch-clause-progress : goal.returns-then-not-branch-clause-progress
returns-then-not-branch-clause-progress g c = c.choose.ensures.progress

pub returns-in_err-sweep_with-clause-progress : goal.returns-in_err-sweep_with-clause-progress
returns-in_err-sweep_with-clause-progress g c = but_then c.choose.ensures.progress (but_pairs c.sweep_with.ensures.progress)

pub returns-clause-progress : goal.returns-clause-progress
returns-clause-progress g c = but_then c.choose.ensures.progress (but_pairs c.sweep_with.ensures.progress)
