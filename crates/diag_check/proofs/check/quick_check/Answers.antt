use Rattle.diag_check.proofs.Vocabulary.{sym, ◌∙◌, held, if_ok_so}
use Rattle.diag_check.proofs.{Checking.few_if, Checking.sound_if, Checking.yes_if, Counting.for_ways}
use Rattle.diag_check.proofs.check.quick_check.Goals as goal

pub returns-clause-sound_each : goal.returns-clause-sound_each
returns-clause-sound_each g c =
    let new = c.check_with.new.knowledge.facts in
    let shape = c.check_with.ensures.advances.more.shape ∙ c.in-Ok-none.ensures.shape ∙ sym c.requires.image in
    if_ok_so c.check_with.result c.check_with.ensures.keeps (λ answer keeps f e. sound_if _ _ new c.args.image.now answer (λ h. c.kept_facts_are_sound.ensures.nothing _ h c.in-Ok-none.ensures.nothing) (held c.check_with.ensures.advances e) keeps
    (λ h holds parts. c.kept_images_run_soundly.ensures new h c.args.image.now c.in-Ok.parts.used c.parts_of.ensures.right shape c.in-Ok.ensures.used holds parts))

pub returns-clause-whole_each : goal.returns-clause-whole_each
returns-clause-whole_each g c =
    if_ok_so c.check_with.result c.check_with.ensures.whole_each (λ answer whole f e. yes_if _ _ c.args.image.now answer (λ h. c.kept_facts_are_sound.ensures.nothing _ h c.in-Ok-none.ensures.nothing) (whole f e))

pub returns-clause-loads : goal.returns-clause-loads
returns-clause-loads g c = for_ways _ _ _ _ _ c.in-Ok.ensures.used c.in-Ok.ensures.nodes c.check_with.ensures.loads

pub returns-clause-few_each : goal.returns-clause-few_each
returns-clause-few_each g c = λ f e. few_if _ _ _ _ _ _ _ (λ h. c.kept_facts_are_sound.ensures.nothing _ h c.in-Ok-none.ensures.nothing) c.in-Ok.ensures.used c.in-Ok.ensures.nodes (c.check_with.ensures.few_each f e)
