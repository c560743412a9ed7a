use Rattle.diag_check.proofs.Vocabulary.{◌≡◌, false, rules, held, if_ok_so, advances_then}
use Rattle.diag_check.proofs.Checking.{fewer_one, fewer_then, loads_around, loads_more, loads_one, loads_two, whole_always, whole_then}
use Rattle.diag_check.proofs.check.check_over.Goals as goal

pub returns-in-Ok-true-clause-loads : goal.returns-in-Ok-true-clause-loads
returns-in-Ok-true-clause-loads g c = loads_more _ _ _ _ _ (loads_one _ _ _ c.args.fields.now.narrow _ _ _ c.sweep_around.ensures.loads c.requires.narrow_few c.check_in.ensures.loads)

pub returns-in-Ok-true-clause-few_each : goal.returns-in-Ok-true-clause-few_each
returns-in-Ok-true-clause-few_each g c = λ f e. fewer_one (loads_one _ _ _ c.args.fields.now.narrow _ _ _ c.sweep_around.ensures.loads c.requires.narrow_few c.check_in.ensures.loads)

pub returns-in-Ok-true-clause-whole_each : goal.returns-in-Ok-true-clause-whole_each
returns-in-Ok-true-clause-whole_each g c = λ f e. whole_always

pub returns-in-Err-check_in-clause-loads : goal.returns-in-Err-check_in-clause-loads
returns-in-Err-check_in-clause-loads g c = loads_more _ _ _ _ _ (loads_one _ _ _ c.args.fields.now.narrow _ _ _ c.sweep_around.ensures.loads c.requires.narrow_few c.check_in.ensures.loads)

pub returns-in-Err-check_in-clause-few_each : goal.returns-in-Err-check_in-clause-few_each
returns-in-Err-check_in-clause-few_each g c = λ f e. fewer_one (loads_one _ _ _ c.args.fields.now.narrow _ _ _ c.sweep_around.ensures.loads c.requires.narrow_few c.check_in.ensures.loads)

pub returns-in-Err-clause-loads : goal.returns-in-Err-clause-loads
returns-in-Err-clause-loads g c = loads_more _ _ _ _ _ (loads_around _ _ _ _ _ c.sweep_around.ensures.loads)

pub returns-in-Err-clause-few_each : goal.returns-in-Err-clause-few_each
returns-in-Err-clause-few_each g c = λ f e. fewer_one (loads_around _ _ _ _ _ c.sweep_around.ensures.loads)

pub returns-clause-loads : goal.returns-clause-loads
returns-clause-loads g c = loads_two _ _ _ c.args.fields.now.narrow c.args.fields.now.wide _ _ _ _ c.sweep_around.ensures.loads c.requires.narrow_few c.requires.wide_whole c.check_in.ensures.loads c.check_in-2.ensures.loads

pub returns-clause-whole_each : goal.returns-clause-whole_each
returns-clause-whole_each g c =
    let off : c.in-Ok-false.field-0 ≡ false = first_of (assumption (c.in-Ok-false.field-0-test), search rules) in
    let both = advances_then c.sweep_around.ensures.advances c.check_in.ensures.advances in
    if_ok_so c.check_in-2.result c.check_in-2.ensures.whole_each (λ answer each f e.
    let before = c.check_in-2.ensures.advances.narrows f e in
    whole_then (held c.sweep_around.ensures.advances (c.check_in.ensures.advances.narrows f before)) (held both before) c.requires.narrow_whole c.requires.wide_whole off
    (c.in-Ok-false.ensures.whole_each f before) (each f e))

pub returns-clause-few_each : goal.returns-clause-few_each
returns-clause-few_each g c =
    let off : c.in-Ok-false.field-0 ≡ false = first_of (assumption (c.in-Ok-false.field-0-test), search rules) in
    λ f e. let before = c.check_in-2.ensures.advances.narrows f e in
    fewer_then (held c.sweep_around.ensures.advances (c.check_in.ensures.advances.narrows f before)) c.requires.narrow_whole off (c.in-Ok-false.ensures.whole_each f before)
