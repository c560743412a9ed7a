use Rattle.diag_sweep.proofs.Vocabulary.{List, length, ◌∙◌, ap, subst, Table, MarksIn, LoadBudget}
use Rattle.diag_sweep.proofs.Budgets.{funded_by, pays}
use Rattle.diag_sweep.proofs.Cohering.{hand_coherent, progress_goes, progress_itself}
use Rattle.diag_sweep.proofs.whole.sweep.Goals as goal

pub sweep_sheet-requires-clause-hand : goal.sweep_sheet-requires-clause-hand
sweep_sheet-requires-clause-hand g c = hand_coherent c.requires.coherent c.requires.field (ap (λ (b : LoadBudget). length b.unsettled) c.in-Ok-first_state.ensures ∙ c.in-Ok.ensures.len)

pub returns-in_default-clause-progress : goal.returns-in_default-clause-progress
returns-in_default-clause-progress g c = progress_itself _ c.requires.coherent

pub returns-in_default-first_state-clause-progress : goal.returns-in_default-first_state-clause-progress
returns-in_default-first_state-clause-progress g c = progress_itself _ c.requires.coherent

pub returns-in_default-from_slice-clause-progress : goal.returns-in_default-from_slice-clause-progress
returns-in_default-from_slice-clause-progress g c = progress_itself _ c.requires.coherent

pub returns-clause-progress : goal.returns-clause-progress
returns-clause-progress g c = progress_goes c.sweep_sheet.ensures.goes c.sweep_sheet.ensures.advances

pub returns-clause-marks : goal.returns-clause-marks
returns-clause-marks g c = subst (λ (ts : List Table). MarksIn c.args.field.now ts c.args.knowledge.now.marks c.sweep_sheet.new.knowledge.marks) c.in-Ok-from_slice.ensures.items c.sweep_sheet.ensures.goes.marks

pub returns-clause-pays : goal.returns-clause-pays
returns-clause-pays g c = pays c.args.knowledge.now.facts c.args.knowledge.now.marks _ c.sweep_sheet.ensures.goes.hand (c.sweep_sheet.ensures.goes.funded _ (funded_by c.in-Ok-first_state.ensures (c.in-Ok.ensures.funded c.args.knowledge.now.verified)))
