use Rattle.diag_machine.proofs.Vocabulary.{refl, sym, arith, on_ok_weaker, advances_rest, rest_itself}
use Rattle.diag_machine.proofs.{Stepping.grown_true, Stepping.reached_if, Sweeping.always, Sweeping.few_when}
use Rattle.diag_sweep.proofs.Cohering.{but_pairs_itself, coherent_grown}
use Rattle.diag_machine.proofs.whole.grow_whole.Goals as goal

pub returns-in_default-clause-progress : goal.returns-in_default-clause-progress
returns-in_default-clause-progress g c = but_pairs_itself _ c.requires.coherent

pub returns-clause-progress : goal.returns-clause-progress
returns-clause-progress g c = record {
  coherent = coherent_grown c.requires.coherent c.grow.ensures.advances.more.shape c.grow.ensures.known c.grow.ensures.all refl;
  holds = λ f e t. grown_true c.grow.ensures.advances e c.grow.ensures.grows t;
  advances = advances_rest c.grow.ensures.advances;
}

pub returns-in_default-clause-loads : goal.returns-in_default-clause-loads
returns-in_default-clause-loads g c = let pins = c.growth_without_bad_is_paid.ensures.pins c.args.field.now c.args.knowledge.now.facts c.requires.field in omega (arith, pins)

pub returns-clause-loads : goal.returns-clause-loads
returns-clause-loads g c = c.growth_without_bad_is_paid.ensures.most c.args.field.now c.in-Ok.rest c.args.knowledge.now.facts c.args.knowledge.now.marks _ _ c.requires.field c.in-Ok.ensures c.grow.ensures.loads

pub returns-in_default-clause-few_each : goal.returns-in_default-clause-few_each
returns-in_default-clause-few_each g c = λ f e. always (let pins = c.growth_without_bad_is_paid.ensures.pins c.args.field.now c.args.knowledge.now.facts c.requires.field in omega (arith, pins))

pub returns-clause-reached_each : goal.returns-clause-reached_each
returns-clause-reached_each g c =
    on_ok_weaker c.grow.result (λ closed f e. let true_ = grown_true c.grow.ensures.advances e c.grow.ensures.grows (c.requires.right_each f (c.grow.ensures.advances.narrows f e)) in
    reached_if (sym c.grow.ensures.advances.more.shape) (c.the_numbering_is_sound.ensures.numbered _) c.requires.whole.wires c.requires.whole.crosses (λ g same. (true_.at g same).0)
    (c.closed_without_bad.ensures _ c.grow.new.facts c.grow.new.known.steps c.args.knowledge.now.marks c.args.field.now c.in-Ok.rest c.in-Ok.ensures true_ (closed f e)))
    c.grow.ensures.closed_each

pub returns-clause-few_each : goal.returns-clause-few_each
returns-clause-few_each g c = λ f e. few_when (λ h is none holds. c.growth_without_bad_is_paid.ensures.few c.args.field.now c.in-Ok.rest c.args.knowledge.now.facts c.args.knowledge.now.marks _ _ c.requires.field c.in-Ok.ensures ((c.grow.ensures.few_each f e).at h is none holds))
