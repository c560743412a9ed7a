use Rattle.std.proofs.Common.{◌∙◌, ap, sym, subst, arith, IfSome}
use Rattle.diag_machine.proofs.Vocabulary.{crosses_of, wires_of, IsFieldOf, Field, AreLeftOut, IsWhole, rest_then}
use Rattle.diag_machine.proofs.{Counted.again_most, Counted.lost_most, Counted.size_most, Counted.wires_most, Stepping.reached_then}
use Rattle.diag_machine.proofs.Losing.{out_never}
use Rattle.diag_machine.proofs.Sweeping.{always, at_most, at_once, field_later, marks_on, whole_later}
use Rattle.diag_sweep.proofs.Cohering.{but_pairs_itself, but_then, truth_on}
use Rattle.diag_machine.proofs.whole.know_lost.Goals as goal

pub grow_whole-requires-clause-coherent : goal.grow_whole-requires-clause-coherent
grow_whole-requires-clause-coherent g c = c.choose_once.ensures.progress.coherent

pub grow_whole-requires-clause-right_each : goal.grow_whole-requires-clause-right_each
grow_whole-requires-clause-right_each g c = truth_on c.choose_once.ensures.progress c.requires.right_each

pub returns-in_default-clause-progress : goal.returns-in_default-clause-progress
returns-in_default-clause-progress g c = but_pairs_itself _ c.requires.coherent

pub returns-in_err-choose_once-clause-progress : goal.returns-in_err-choose_once-clause-progress
returns-in_err-choose_once-clause-progress g c = c.choose_once.ensures.progress

pub returns-then-not-branch-clause-progress : goal.returns-then-not-branch-clause-progress
returns-then-not-branch-clause-progress g c = c.choose_once.ensures.progress

pub returns-clause-progress : goal.returns-clause-progress
returns-clause-progress g c = but_then c.choose_once.ensures.progress c.grow_whole.ensures.progress

pub returns-in_default-clause-loads : goal.returns-in_default-clause-loads
returns-in_default-clause-loads g c = let few = size_most c.args.state.now.choices.paid (wires_of c.args.knowledge.now.facts.shape) c.requires.paid in omega (arith, few)

pub returns-in_err-choose_once-clause-loads : goal.returns-in_err-choose_once-clause-loads
returns-in_err-choose_once-clause-loads g c = lost_most _ _ _ _ _ _ _ _ _ _ _ c.pay_for.ensures.pays c.choose_once.ensures.pays (c.growth_without_bad_is_paid.ensures.all c.args.state.now.field c.args.knowledge.now.facts c.args.knowledge.now.marks c.requires.field) (size_most c.pay_for.new.self.paid (wires_of c.args.knowledge.now.facts.shape) (c.pay_for.ensures.len ∙ c.requires.paid))

pub returns-then-not-branch-clause-loads : goal.returns-then-not-branch-clause-loads
returns-then-not-branch-clause-loads g c = lost_most _ _ _ _ _ _ _ _ _ _ _ c.pay_for.ensures.pays c.choose_once.ensures.pays (c.growth_without_bad_is_paid.ensures.all c.args.state.now.field c.args.knowledge.now.facts c.args.knowledge.now.marks c.requires.field) (size_most c.pay_for.new.self.paid (wires_of c.args.knowledge.now.facts.shape) (c.pay_for.ensures.len ∙ c.requires.paid))

pub grow_whole-requires-clause-field : goal.grow_whole-requires-clause-field
grow_whole-requires-clause-field g c = subst (λ (a : Field). IsFieldOf c.choose_once.new.knowledge.facts.shape a) (sym c.choose_once.ensures.field) (field_later c.choose_once.ensures.progress.advances.more c.requires.field)

pub grow_whole-requires-clause-whole : goal.grow_whole-requires-clause-whole
grow_whole-requires-clause-whole g c = subst (λ (a : Field). IsWhole c.choose_once.new.knowledge.facts.shape a) (sym c.choose_once.ensures.field) (whole_later c.choose_once.ensures.progress.advances.more c.requires.whole)

pub returns-clause-loads : goal.returns-clause-loads
returns-clause-loads g c = again_most _ _ _ _ _ _ _ _ _ _ _ c.pay_for.ensures.pays c.choose_once.ensures.pays (c.growth_without_bad_is_paid.ensures.all c.args.state.now.field c.args.knowledge.now.facts c.args.knowledge.now.marks c.requires.field) (size_most c.pay_for.new.self.paid (wires_of c.args.knowledge.now.facts.shape) (c.pay_for.ensures.len ∙ c.requires.paid)) _ _ _ (at_most (c.growth_without_bad_is_paid.ensures.all c.choose_once.new.state.field c.choose_once.new.knowledge.facts c.choose_once.new.knowledge.marks (subst (λ (a : Field). IsFieldOf c.choose_once.new.knowledge.facts.shape a) (sym c.choose_once.ensures.field) (field_later c.choose_once.ensures.progress.advances.more c.requires.field))) (at_once (ap crosses_of c.choose_once.ensures.progress.advances.more.shape))) (wires_most c.requires.field c.choose_once.ensures.field) c.grow_whole.ensures.loads

pub returns-in_err-choose_once-clause-few_each : goal.returns-in_err-choose_once-clause-few_each
returns-in_err-choose_once-clause-few_each g c = λ f e. out_never (c.requires.reached_each f (c.choose_once.ensures.progress.advances.narrows f e)) (subst (λ o. IfSome o (λ _. AreLeftOut c.args.knowledge.now.facts c.args.knowledge.now.verified.steps)) c.in-Some.is c.in-Ok.ensures)

pub returns-then-not-branch-clause-few_each : goal.returns-then-not-branch-clause-few_each
returns-then-not-branch-clause-few_each g c = λ f e. out_never (c.requires.reached_each f (c.choose_once.ensures.progress.advances.narrows f e)) (subst (λ o. IfSome o (λ _. AreLeftOut c.args.knowledge.now.facts c.args.knowledge.now.verified.steps)) c.in-Some.is c.in-Ok.ensures)

pub returns-clause-few_each : goal.returns-clause-few_each
returns-clause-few_each g c = λ f e. out_never (c.requires.reached_each f (c.choose_once.ensures.progress.advances.narrows f (c.grow_whole.ensures.progress.advances.narrows f e))) (subst (λ o. IfSome o (λ _. AreLeftOut c.args.knowledge.now.facts c.args.knowledge.now.verified.steps)) c.in-Some.is c.in-Ok.ensures)

pub returns-then-not-branch-clause-reached_each : goal.returns-then-not-branch-clause-reached_each
returns-then-not-branch-clause-reached_each g c = λ f e. reached_then c.choose_once.ensures.progress.advances.more (c.in_ok-choose_once.ensures.same c.if-not-branch.true) (c.requires.reached_each f (c.choose_once.ensures.progress.advances.narrows f e))
