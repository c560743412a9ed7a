use Rattle.diag_machine.proofs.Vocabulary.{◌∙◌, ap, sym, subst, crosses_of, wires_of, size_of, IsFieldOf, Field, IsWhole, rest_then}
use Rattle.diag_machine.proofs.Counted.{grown_few, grown_most, known_few, known_most, pins_same, size_most, swept_few, swept_most, wires_most}
use Rattle.diag_machine.proofs.Stepping.{holds_each}
use Rattle.diag_machine.proofs.Sweeping.{always, at_most, at_once, few_when, field_later, whole_later}
use Rattle.diag_sweep.proofs.Cohering.{but_then, truth_on}
use Rattle.diag_machine.proofs.whole.know_all.Goals as goal

pub grow_whole-requires-clause-coherent : goal.grow_whole-requires-clause-coherent
grow_whole-requires-clause-coherent g c = c.sweep_whole.ensures.progress.coherent

pub grow_whole-requires-clause-right_each : goal.grow_whole-requires-clause-right_each
grow_whole-requires-clause-right_each g c = truth_on c.sweep_whole.ensures.progress c.requires.right_each

pub know_lost-requires-clause-coherent : goal.know_lost-requires-clause-coherent
know_lost-requires-clause-coherent g c = c.grow_whole.ensures.progress.coherent

pub know_lost-requires-clause-right_each : goal.know_lost-requires-clause-right_each
know_lost-requires-clause-right_each g c = truth_on c.grow_whole.ensures.progress (truth_on c.sweep_whole.ensures.progress c.requires.right_each)

pub returns-in_err-sweep_whole-clause-progress : goal.returns-in_err-sweep_whole-clause-progress
returns-in_err-sweep_whole-clause-progress g c = c.sweep_whole.ensures.progress

pub returns-in_err-grow_whole-clause-progress : goal.returns-in_err-grow_whole-clause-progress
returns-in_err-grow_whole-clause-progress g c = but_then c.sweep_whole.ensures.progress c.grow_whole.ensures.progress

pub returns-in_err-know_lost-clause-progress : goal.returns-in_err-know_lost-clause-progress
returns-in_err-know_lost-clause-progress g c = but_then (but_then c.sweep_whole.ensures.progress c.grow_whole.ensures.progress) c.know_lost.ensures.progress

pub returns-clause-progress : goal.returns-clause-progress
returns-clause-progress g c = but_then (but_then c.sweep_whole.ensures.progress c.grow_whole.ensures.progress) c.know_lost.ensures.progress

pub grow_whole-requires-clause-field : goal.grow_whole-requires-clause-field
grow_whole-requires-clause-field g c = subst (λ (a : Field). IsFieldOf c.sweep_whole.new.knowledge.facts.shape a) (sym c.sweep_whole.ensures.field) (field_later c.sweep_whole.ensures.progress.advances.more c.requires.field)

pub grow_whole-requires-clause-whole : goal.grow_whole-requires-clause-whole
grow_whole-requires-clause-whole g c = subst (λ (a : Field). IsWhole c.sweep_whole.new.knowledge.facts.shape a) (sym c.sweep_whole.ensures.field) (whole_later c.sweep_whole.ensures.progress.advances.more c.requires.whole)

pub know_lost-requires-clause-field : goal.know_lost-requires-clause-field
know_lost-requires-clause-field g c = subst (λ (a : Field). IsFieldOf c.grow_whole.new.knowledge.facts.shape a) (sym c.sweep_whole.ensures.field) (field_later (rest_then c.sweep_whole.ensures.progress.advances c.grow_whole.ensures.progress.advances).more c.requires.field)

pub know_lost-requires-clause-whole : goal.know_lost-requires-clause-whole
know_lost-requires-clause-whole g c = subst (λ (a : Field). IsWhole c.grow_whole.new.knowledge.facts.shape a) (sym c.sweep_whole.ensures.field) (whole_later (rest_then c.sweep_whole.ensures.progress.advances c.grow_whole.ensures.progress.advances).more c.requires.whole)

pub know_lost-requires-clause-paid : goal.know_lost-requires-clause-paid
know_lost-requires-clause-paid g c = c.sweep_whole.ensures.paid ∙ c.requires.paid ∙ ap wires_of (sym (rest_then c.sweep_whole.ensures.progress.advances c.grow_whole.ensures.progress.advances).more.shape)

pub returns-in_err-sweep_whole-clause-loads : goal.returns-in_err-sweep_whole-clause-loads
returns-in_err-sweep_whole-clause-loads g c = swept_most _ _ _ _ _ _ _ _ _ _ _ _ _ c.sweep_whole.ensures.pays c.requires.left c.requires.none
    (c.growth_without_bad_is_paid.ensures.all c.args.state.now.field c.args.knowledge.now.facts c.args.knowledge.now.marks c.requires.field)
    (at_most (c.growth_without_bad_is_paid.ensures.all c.sweep_whole.new.state.field c.sweep_whole.new.knowledge.facts c.sweep_whole.new.knowledge.marks (subst (λ (a : Field). IsFieldOf c.sweep_whole.new.knowledge.facts.shape a) (sym c.sweep_whole.ensures.field) (field_later c.sweep_whole.ensures.progress.advances.more c.requires.field))) (at_once (ap crosses_of c.sweep_whole.ensures.progress.advances.more.shape)))
    (c.growth_without_bad_is_paid.ensures.pins c.sweep_whole.new.state.field c.sweep_whole.new.knowledge.facts (subst (λ (a : Field). IsFieldOf c.sweep_whole.new.knowledge.facts.shape a) (sym c.sweep_whole.ensures.field) (field_later c.sweep_whole.ensures.progress.advances.more c.requires.field)))
    (pins_same c.sweep_whole.ensures.progress.advances.more.shape c.sweep_whole.ensures.field)
    (wires_most c.requires.field c.sweep_whole.ensures.field)
    (size_most c.sweep_whole.new.state.choices.paid (wires_of c.args.knowledge.now.facts.shape) (c.sweep_whole.ensures.paid ∙ c.requires.paid))

pub returns-in_err-grow_whole-clause-loads : goal.returns-in_err-grow_whole-clause-loads
returns-in_err-grow_whole-clause-loads g c = grown_most _ _ _ _ _ _ _ _ _ _ _ _ _ c.sweep_whole.ensures.pays c.requires.left c.requires.none
    (c.growth_without_bad_is_paid.ensures.all c.args.state.now.field c.args.knowledge.now.facts c.args.knowledge.now.marks c.requires.field)
    (at_most (c.growth_without_bad_is_paid.ensures.all c.sweep_whole.new.state.field c.sweep_whole.new.knowledge.facts c.sweep_whole.new.knowledge.marks (subst (λ (a : Field). IsFieldOf c.sweep_whole.new.knowledge.facts.shape a) (sym c.sweep_whole.ensures.field) (field_later c.sweep_whole.ensures.progress.advances.more c.requires.field))) (at_once (ap crosses_of c.sweep_whole.ensures.progress.advances.more.shape)))
    (c.growth_without_bad_is_paid.ensures.pins c.sweep_whole.new.state.field c.sweep_whole.new.knowledge.facts (subst (λ (a : Field). IsFieldOf c.sweep_whole.new.knowledge.facts.shape a) (sym c.sweep_whole.ensures.field) (field_later c.sweep_whole.ensures.progress.advances.more c.requires.field)))
    (pins_same c.sweep_whole.ensures.progress.advances.more.shape c.sweep_whole.ensures.field)
    (wires_most c.requires.field c.sweep_whole.ensures.field)
    (size_most c.sweep_whole.new.state.choices.paid (wires_of c.args.knowledge.now.facts.shape) (c.sweep_whole.ensures.paid ∙ c.requires.paid)) _ c.grow_whole.ensures.loads

pub returns-in_err-know_lost-clause-loads : goal.returns-in_err-know_lost-clause-loads
returns-in_err-know_lost-clause-loads g c = known_most _ _ _ _ _ _ _ _ _ _ _ _ _ c.sweep_whole.ensures.pays c.requires.left c.requires.none
    (c.growth_without_bad_is_paid.ensures.all c.args.state.now.field c.args.knowledge.now.facts c.args.knowledge.now.marks c.requires.field)
    (at_most (c.growth_without_bad_is_paid.ensures.all c.sweep_whole.new.state.field c.sweep_whole.new.knowledge.facts c.sweep_whole.new.knowledge.marks (subst (λ (a : Field). IsFieldOf c.sweep_whole.new.knowledge.facts.shape a) (sym c.sweep_whole.ensures.field) (field_later c.sweep_whole.ensures.progress.advances.more c.requires.field))) (at_once (ap crosses_of c.sweep_whole.ensures.progress.advances.more.shape)))
    (c.growth_without_bad_is_paid.ensures.pins c.sweep_whole.new.state.field c.sweep_whole.new.knowledge.facts (subst (λ (a : Field). IsFieldOf c.sweep_whole.new.knowledge.facts.shape a) (sym c.sweep_whole.ensures.field) (field_later c.sweep_whole.ensures.progress.advances.more c.requires.field)))
    (pins_same c.sweep_whole.ensures.progress.advances.more.shape c.sweep_whole.ensures.field)
    (wires_most c.requires.field c.sweep_whole.ensures.field)
    (size_most c.sweep_whole.new.state.choices.paid (wires_of c.args.knowledge.now.facts.shape) (c.sweep_whole.ensures.paid ∙ c.requires.paid)) _ _ _ _ c.grow_whole.ensures.loads (ap crosses_of (rest_then c.sweep_whole.ensures.progress.advances c.grow_whole.ensures.progress.advances).more.shape) (ap wires_of (rest_then c.sweep_whole.ensures.progress.advances c.grow_whole.ensures.progress.advances).more.shape) c.know_lost.ensures.loads

pub returns-clause-loads : goal.returns-clause-loads
returns-clause-loads g c = known_most _ _ _ _ _ _ _ _ _ _ _ _ _ c.sweep_whole.ensures.pays c.requires.left c.requires.none
    (c.growth_without_bad_is_paid.ensures.all c.args.state.now.field c.args.knowledge.now.facts c.args.knowledge.now.marks c.requires.field)
    (at_most (c.growth_without_bad_is_paid.ensures.all c.sweep_whole.new.state.field c.sweep_whole.new.knowledge.facts c.sweep_whole.new.knowledge.marks (subst (λ (a : Field). IsFieldOf c.sweep_whole.new.knowledge.facts.shape a) (sym c.sweep_whole.ensures.field) (field_later c.sweep_whole.ensures.progress.advances.more c.requires.field))) (at_once (ap crosses_of c.sweep_whole.ensures.progress.advances.more.shape)))
    (c.growth_without_bad_is_paid.ensures.pins c.sweep_whole.new.state.field c.sweep_whole.new.knowledge.facts (subst (λ (a : Field). IsFieldOf c.sweep_whole.new.knowledge.facts.shape a) (sym c.sweep_whole.ensures.field) (field_later c.sweep_whole.ensures.progress.advances.more c.requires.field)))
    (pins_same c.sweep_whole.ensures.progress.advances.more.shape c.sweep_whole.ensures.field)
    (wires_most c.requires.field c.sweep_whole.ensures.field)
    (size_most c.sweep_whole.new.state.choices.paid (wires_of c.args.knowledge.now.facts.shape) (c.sweep_whole.ensures.paid ∙ c.requires.paid)) _ _ _ _ c.grow_whole.ensures.loads (ap crosses_of (rest_then c.sweep_whole.ensures.progress.advances c.grow_whole.ensures.progress.advances).more.shape) (ap wires_of (rest_then c.sweep_whole.ensures.progress.advances c.grow_whole.ensures.progress.advances).more.shape) c.know_lost.ensures.loads

pub know_lost-requires-clause-reached_each : goal.know_lost-requires-clause-reached_each
know_lost-requires-clause-reached_each g c = c.in_ok-grow_whole.ensures.reached_each

pub returns-clause-reached_each : goal.returns-clause-reached_each
returns-clause-reached_each g c = c.in_ok-know_lost.ensures.reached_each

pub returns-in_err-sweep_whole-clause-few_each : goal.returns-in_err-sweep_whole-clause-few_each
returns-in_err-sweep_whole-clause-few_each g c = λ f e.
    let swept = e in
    few_when (λ h is none holds. swept_few _ _ _ _ _ _ _ _ _ _ _ _ _ c.sweep_whole.ensures.pays c.requires.left c.requires.none
    (c.growth_without_bad_is_paid.ensures.all c.args.state.now.field c.args.knowledge.now.facts c.args.knowledge.now.marks c.requires.field)
    (at_most (c.growth_without_bad_is_paid.ensures.all c.sweep_whole.new.state.field c.sweep_whole.new.knowledge.facts c.sweep_whole.new.knowledge.marks (subst (λ (a : Field). IsFieldOf c.sweep_whole.new.knowledge.facts.shape a) (sym c.sweep_whole.ensures.field) (field_later c.sweep_whole.ensures.progress.advances.more c.requires.field))) (at_once (ap crosses_of c.sweep_whole.ensures.progress.advances.more.shape)))
    (c.growth_without_bad_is_paid.ensures.pins c.sweep_whole.new.state.field c.sweep_whole.new.knowledge.facts (subst (λ (a : Field). IsFieldOf c.sweep_whole.new.knowledge.facts.shape a) (sym c.sweep_whole.ensures.field) (field_later c.sweep_whole.ensures.progress.advances.more c.requires.field)))
    (pins_same c.sweep_whole.ensures.progress.advances.more.shape c.sweep_whole.ensures.field)
    (wires_most c.requires.field c.sweep_whole.ensures.field)
    (size_most c.sweep_whole.new.state.choices.paid (wires_of c.args.knowledge.now.facts.shape) (c.sweep_whole.ensures.paid ∙ c.requires.paid)) (ap size_of ((c.sweep_whole.ensures.few_each f swept).at h is none holds)))

pub returns-in_err-grow_whole-clause-few_each : goal.returns-in_err-grow_whole-clause-few_each
returns-in_err-grow_whole-clause-few_each g c = λ f e.
    let grown = e in let swept = c.grow_whole.ensures.progress.advances.narrows f grown in
    few_when (λ h is none holds. grown_few _ _ _ _ _ _ _ _ _ _ _ _ _ c.sweep_whole.ensures.pays c.requires.left c.requires.none
    (c.growth_without_bad_is_paid.ensures.all c.args.state.now.field c.args.knowledge.now.facts c.args.knowledge.now.marks c.requires.field)
    (at_most (c.growth_without_bad_is_paid.ensures.all c.sweep_whole.new.state.field c.sweep_whole.new.knowledge.facts c.sweep_whole.new.knowledge.marks (subst (λ (a : Field). IsFieldOf c.sweep_whole.new.knowledge.facts.shape a) (sym c.sweep_whole.ensures.field) (field_later c.sweep_whole.ensures.progress.advances.more c.requires.field))) (at_once (ap crosses_of c.sweep_whole.ensures.progress.advances.more.shape)))
    (c.growth_without_bad_is_paid.ensures.pins c.sweep_whole.new.state.field c.sweep_whole.new.knowledge.facts (subst (λ (a : Field). IsFieldOf c.sweep_whole.new.knowledge.facts.shape a) (sym c.sweep_whole.ensures.field) (field_later c.sweep_whole.ensures.progress.advances.more c.requires.field)))
    (pins_same c.sweep_whole.ensures.progress.advances.more.shape c.sweep_whole.ensures.field)
    (wires_most c.requires.field c.sweep_whole.ensures.field)
    (size_most c.sweep_whole.new.state.choices.paid (wires_of c.args.knowledge.now.facts.shape) (c.sweep_whole.ensures.paid ∙ c.requires.paid)) (ap size_of ((c.sweep_whole.ensures.few_each f swept).at h is none holds)) _ ((c.grow_whole.ensures.few_each f grown).at h is none (holds_each c.sweep_whole.ensures.progress.advances swept h is holds)))

pub returns-in_err-know_lost-clause-few_each : goal.returns-in_err-know_lost-clause-few_each
returns-in_err-know_lost-clause-few_each g c = λ f e.
    let grown = c.know_lost.ensures.progress.advances.narrows f e in let swept = c.grow_whole.ensures.progress.advances.narrows f grown in
    few_when (λ h is none holds. known_few _ _ _ _ _ _ _ _ _ _ _ _ _ c.sweep_whole.ensures.pays c.requires.left c.requires.none
    (c.growth_without_bad_is_paid.ensures.all c.args.state.now.field c.args.knowledge.now.facts c.args.knowledge.now.marks c.requires.field)
    (at_most (c.growth_without_bad_is_paid.ensures.all c.sweep_whole.new.state.field c.sweep_whole.new.knowledge.facts c.sweep_whole.new.knowledge.marks (subst (λ (a : Field). IsFieldOf c.sweep_whole.new.knowledge.facts.shape a) (sym c.sweep_whole.ensures.field) (field_later c.sweep_whole.ensures.progress.advances.more c.requires.field))) (at_once (ap crosses_of c.sweep_whole.ensures.progress.advances.more.shape)))
    (c.growth_without_bad_is_paid.ensures.pins c.sweep_whole.new.state.field c.sweep_whole.new.knowledge.facts (subst (λ (a : Field). IsFieldOf c.sweep_whole.new.knowledge.facts.shape a) (sym c.sweep_whole.ensures.field) (field_later c.sweep_whole.ensures.progress.advances.more c.requires.field)))
    (pins_same c.sweep_whole.ensures.progress.advances.more.shape c.sweep_whole.ensures.field)
    (wires_most c.requires.field c.sweep_whole.ensures.field)
    (size_most c.sweep_whole.new.state.choices.paid (wires_of c.args.knowledge.now.facts.shape) (c.sweep_whole.ensures.paid ∙ c.requires.paid)) (ap size_of ((c.sweep_whole.ensures.few_each f swept).at h is none holds)) _ _ ((c.grow_whole.ensures.few_each f grown).at h is none (holds_each c.sweep_whole.ensures.progress.advances swept h is holds)) ((c.know_lost.ensures.few_each f e).at h is none (holds_each c.grow_whole.ensures.progress.advances grown h is (holds_each c.sweep_whole.ensures.progress.advances swept h is holds))))

pub returns-clause-few_each : goal.returns-clause-few_each
returns-clause-few_each g c = λ f e.
    let grown = c.know_lost.ensures.progress.advances.narrows f e in let swept = c.grow_whole.ensures.progress.advances.narrows f grown in
    few_when (λ h is none holds. known_few _ _ _ _ _ _ _ _ _ _ _ _ _ c.sweep_whole.ensures.pays c.requires.left c.requires.none
    (c.growth_without_bad_is_paid.ensures.all c.args.state.now.field c.args.knowledge.now.facts c.args.knowledge.now.marks c.requires.field)
    (at_most (c.growth_without_bad_is_paid.ensures.all c.sweep_whole.new.state.field c.sweep_whole.new.knowledge.facts c.sweep_whole.new.knowledge.marks (subst (λ (a : Field). IsFieldOf c.sweep_whole.new.knowledge.facts.shape a) (sym c.sweep_whole.ensures.field) (field_later c.sweep_whole.ensures.progress.advances.more c.requires.field))) (at_once (ap crosses_of c.sweep_whole.ensures.progress.advances.more.shape)))
    (c.growth_without_bad_is_paid.ensures.pins c.sweep_whole.new.state.field c.sweep_whole.new.knowledge.facts (subst (λ (a : Field). IsFieldOf c.sweep_whole.new.knowledge.facts.shape a) (sym c.sweep_whole.ensures.field) (field_later c.sweep_whole.ensures.progress.advances.more c.requires.field)))
    (pins_same c.sweep_whole.ensures.progress.advances.more.shape c.sweep_whole.ensures.field)
    (wires_most c.requires.field c.sweep_whole.ensures.field)
    (size_most c.sweep_whole.new.state.choices.paid (wires_of c.args.knowledge.now.facts.shape) (c.sweep_whole.ensures.paid ∙ c.requires.paid)) (ap size_of ((c.sweep_whole.ensures.few_each f swept).at h is none holds)) _ _ ((c.grow_whole.ensures.few_each f grown).at h is none (holds_each c.sweep_whole.ensures.progress.advances swept h is holds)) ((c.know_lost.ensures.few_each f e).at h is none (holds_each c.grow_whole.ensures.progress.advances grown h is (holds_each c.sweep_whole.ensures.progress.advances swept h is holds))))
