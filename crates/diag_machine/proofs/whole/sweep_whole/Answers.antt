use Rattle.diag_machine.proofs.Vocabulary.{◌∙◌, ap, length, refl, arith, size_of, more_rest}
use Rattle.diag_machine.proofs.Sweeping.{always, few_when, field_later, none_unfit}
use Rattle.diag_sweep.proofs.Cohering.{but_pairs, but_pairs_itself, but_then}
use Rattle.diag_machine.proofs.whole.sweep_whole.Goals as goal

pub choose_all-requires-clause-coherent : goal.choose_all-requires-clause-coherent
choose_all-requires-clause-coherent g c = c.sweep.ensures.progress.coherent

pub returns-in_default-clause-progress : goal.returns-in_default-clause-progress
returns-in_default-clause-progress g c = but_pairs_itself _ c.requires.coherent

pub returns-in_err-sweep-clause-progress : goal.returns-in_err-sweep-clause-progress
returns-in_err-sweep-clause-progress g c = but_pairs c.sweep.ensures.progress

pub returns-in_default-unfit_wires-clause-progress : goal.returns-in_default-unfit_wires-clause-progress
returns-in_default-unfit_wires-clause-progress g c = but_pairs c.sweep.ensures.progress

pub returns-clause-progress : goal.returns-clause-progress
returns-clause-progress g c = but_then (but_pairs c.sweep.ensures.progress) c.choose_all.ensures.progress

pub choose_all-requires-clause-field : goal.choose_all-requires-clause-field
choose_all-requires-clause-field g c = field_later (more_rest c.sweep.ensures.progress.advances.more) c.requires.field

pub returns-in_err-sweep-clause-pays : goal.returns-in_err-sweep-clause-pays
returns-in_err-sweep-clause-pays g c = let pays = c.sweep.ensures.pays in omega (arith, pays)

pub returns-clause-pays : goal.returns-clause-pays
returns-clause-pays g c = let pays = c.sweep.ensures.pays in let put = c.pay_for.ensures.pays in let chosen = c.choose_all.ensures.pays in let same = ap size_of c.choose_all.ensures.paid in omega (arith, pays, put, chosen, same)

pub returns-clause-paid : goal.returns-clause-paid
returns-clause-paid g c = ap length c.choose_all.ensures.paid ∙ c.pay_for.ensures.len

pub returns-in_default-unfit_wires-clause-pays : goal.returns-in_default-unfit_wires-clause-pays
returns-in_default-unfit_wires-clause-pays g c = let pays = c.sweep.ensures.pays in omega (arith, pays)

pub returns-in_err-sweep-clause-few_each : goal.returns-in_err-sweep-clause-few_each
returns-in_err-sweep-clause-few_each g c = λ f e. always refl

pub returns-in_default-unfit_wires-clause-few_each : goal.returns-in_default-unfit_wires-clause-few_each
returns-in_default-unfit_wires-clause-few_each g c = λ f e. always refl

pub returns-clause-few_each : goal.returns-clause-few_each
returns-clause-few_each g c = λ f e.
    let swept = c.choose_all.ensures.progress.advances.narrows f e in
    few_when (λ h is none holds. c.choose_all.ensures.paid ∙ ap (λ x. x.paid) (c.pay_for.ensures.none (none_unfit c.in-Ok-unfit_wires.unfit h is none
    (c.sweep.ensures.progress.holds f swept (c.requires.right_each f (c.sweep.ensures.progress.advances.narrows f swept))) c.in-Ok-unfit_wires.ensures)))
