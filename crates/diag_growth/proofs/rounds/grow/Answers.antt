use Rattle.std.proofs.Common.{refl}
use Rattle.diag_growth.proofs.Vocabulary.{on_ok_so}
use Rattle.diag_growth.proofs.{Circling.grows_nothing, Taken.no_loads, Taken.takes_none}
use Rattle.diag_growth.proofs.Remaining.{rest_closed, rest_few, rest_field, rest_grows, rest_most}
use Rattle.diag_growth.proofs.rounds.grow.Goals as goal

pub returns-then-is_complete-clause-loads : goal.returns-then-is_complete-clause-loads
returns-then-is_complete-clause-loads g c = no_loads c.args.facts.now c.args.field.now _ c.requires.field

pub returns-then-is_complete-clause-few_each : goal.returns-then-is_complete-clause-few_each
returns-then-is_complete-clause-few_each g c = λ f e. takes_none c.requires.field refl

pub returns-in_default-clause-grows : goal.returns-in_default-clause-grows
returns-in_default-clause-grows g c = grows_nothing c.args.known.now.steps

pub returns-in_default-clause-loads : goal.returns-in_default-clause-loads
returns-in_default-clause-loads g c = no_loads c.args.facts.now c.args.field.now _ c.requires.field

pub returns-in_default-clause-few_each : goal.returns-in_default-clause-few_each
returns-in_default-clause-few_each g c = λ f e. takes_none c.requires.field refl

pub grow_tried-requires-clause-field : goal.grow_tried-requires-clause-field
grow_tried-requires-clause-field g c = rest_field c.in-Ok.ensures c.requires.field

pub returns-clause-grows : goal.returns-clause-grows
returns-clause-grows g c = rest_grows c.in-Ok.ensures c.grow_tried.ensures.grows

pub returns-clause-closed_each : goal.returns-clause-closed_each
returns-clause-closed_each g c = on_ok_so c.grow_tried.result c.grow_tried.ensures.closed_each
    (λ closed f e. rest_closed c.in-Ok.ensures c.grow_tried.ensures.advances.more c.grow_tried.ensures.grows.stays (closed f e))

pub returns-clause-loads : goal.returns-clause-loads
returns-clause-loads g c = rest_most c.in-Ok.ensures _ _ c.grow_tried.ensures.loads

pub returns-clause-few_each : goal.returns-clause-few_each
returns-clause-few_each g c = λ f e. rest_few c.in-Ok.ensures (c.grow_tried.ensures.few_each f e)
