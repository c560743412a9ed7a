use Rattle.diag_check.proofs.Vocabulary.{◌≡◌, refl, true, false, rules, false≢true, all_still, known_later, if_ok_so, held}
use Rattle.diag_check.proofs.Checking.{parts_found, field_found, field_lost, loads_field, loads_grown}
use Rattle.diag_sweep.proofs.Cohering.{coherent_grown}
use Rattle.diag_check.proofs.check.check_in.Goals as goal

pub returns-clause-coherent : goal.returns-clause-coherent
returns-clause-coherent g c =
    let grown = c.grow_over.ensures.coherent in
    let more = c.look_at_tables.ensures.advances.more in
    coherent_grown grown more.shape (known_later more grown.known) (all_still _ _ c.look_at_tables.ensures.set grown.all) refl

pub returns-clause-keeps : goal.returns-clause-keeps
returns-clause-keeps g c =
    let grown : c.in-Ok-true.field-0 ≡ true = first_of (assumption (c.in-Ok-true.field-0-test), search rules) in
    if_ok_so c.look_at_tables.result c.look_at_tables.ensures.keeps (λ answer keeps e.
    parts_found c.grow_over.new.knowledge.facts c.look_at_tables.new.facts c.args.image.now answer c.look_at_tables.ensures.advances.more (c.in-Ok-true.ensures.keeps grown) keeps e)

pub returns-clause-whole_each : goal.returns-clause-whole_each
returns-clause-whole_each g c = if_ok_so c.look_at_tables.result c.look_at_tables.ensures.whole_each (λ answer each f e. let before = c.look_at_tables.ensures.advances.narrows f e in
    field_found (held c.grow_over.ensures.advances before) (c.in-Ok-true.ensures.whole_each f before) (each f e))

pub returns-clause-loads : goal.returns-clause-loads
returns-clause-loads g c = loads_field _ _ _ _ _ _ c.grow_over.ensures.loads (c.look_at_tables.ensures.loads c.args.used.now c.requires.used)

pub returns-in-Ok-false-clause-keeps : goal.returns-in-Ok-false-clause-keeps
returns-in-Ok-false-clause-keeps g c = λ e. absurd (false≢true e)

pub returns-in-Ok-false-clause-whole_each : goal.returns-in-Ok-false-clause-whole_each
returns-in-Ok-false-clause-whole_each g c =
    let off : c.in-Ok-false.field-0 ≡ false = first_of (assumption (c.in-Ok-false.field-0-test), search rules) in
    λ f e. field_lost off (c.in-Ok-false.ensures.whole_each f e)

pub returns-in-Ok-false-clause-loads : goal.returns-in-Ok-false-clause-loads
returns-in-Ok-false-clause-loads g c = loads_grown _ _ _ _ _ c.grow_over.ensures.loads

pub returns-in-Err-clause-loads : goal.returns-in-Err-clause-loads
returns-in-Err-clause-loads g c = loads_grown _ _ _ _ _ c.grow_over.ensures.loads
