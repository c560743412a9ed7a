use Rattle.diag_machine.proofs.Vocabulary.{◌∙◌, refl, sym, subst, arith, IsFieldOf, Field}
use Rattle.diag_machine.proofs.Sweeping.{at_most, field_later}
use Rattle.diag_sweep.proofs.Cohering.{but_pairs_itself, but_then}
use Rattle.diag_machine.proofs.whole.choose_all.Goals as goal

pub choices-init : goal.choices-init
choices-init g c = record { progress = but_pairs_itself _ c.requires.coherent; field = refl; pays = omega arith; paid = refl }

pub choose_once-requires-clause-coherent : goal.choose_once-requires-clause-coherent
choose_once-requires-clause-coherent g c = c.choices.invariant.progress.coherent

pub choose_once-requires-clause-field : goal.choose_once-requires-clause-field
choose_once-requires-clause-field g c = subst (λ (a : Field). IsFieldOf c.choices.knowledge.facts.shape a) (sym c.choices.invariant.field) (field_later c.choices.invariant.progress.advances.more c.requires.field)

pub choices-preserved : goal.choices-preserved
choices-preserved g c = record {
  progress = but_then c.choices.invariant.progress c.choose_once.ensures.progress;
  field = c.choose_once.ensures.field ∙ c.choices.invariant.field;
  pays = at_most c.choose_once.ensures.pays c.choices.invariant.pays;
  paid = c.choose_once.ensures.paid ∙ c.choices.invariant.paid;
}

pub returns-clause-progress : goal.returns-clause-progress
returns-clause-progress g c = c.choices.invariant.progress

pub returns-in_err-choose_once-clause-progress : goal.returns-in_err-choose_once-clause-progress
returns-in_err-choose_once-clause-progress g c = but_then c.choices.invariant.progress c.choose_once.ensures.progress

pub returns-then-not-branch-clause-progress : goal.returns-then-not-branch-clause-progress
returns-then-not-branch-clause-progress g c = but_then c.choices.invariant.progress c.choose_once.ensures.progress

pub returns-in_err-choose_once-clause-field : goal.returns-in_err-choose_once-clause-field
returns-in_err-choose_once-clause-field g c = c.choose_once.ensures.field ∙ c.choices.invariant.field

pub returns-then-not-branch-clause-field : goal.returns-then-not-branch-clause-field
returns-then-not-branch-clause-field g c = c.choose_once.ensures.field ∙ c.choices.invariant.field

pub returns-in_err-choose_once-clause-pays : goal.returns-in_err-choose_once-clause-pays
returns-in_err-choose_once-clause-pays g c = at_most c.choose_once.ensures.pays c.choices.invariant.pays

pub returns-then-not-branch-clause-pays : goal.returns-then-not-branch-clause-pays
returns-then-not-branch-clause-pays g c = at_most c.choose_once.ensures.pays c.choices.invariant.pays

pub returns-in_err-choose_once-clause-paid : goal.returns-in_err-choose_once-clause-paid
returns-in_err-choose_once-clause-paid g c = c.choose_once.ensures.paid ∙ c.choices.invariant.paid

pub returns-then-not-branch-clause-paid : goal.returns-then-not-branch-clause-paid
returns-then-not-branch-clause-paid g c = c.choose_once.ensures.paid ∙ c.choices.invariant.paid
