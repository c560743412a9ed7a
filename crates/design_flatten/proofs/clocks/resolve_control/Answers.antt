use Rattle.design_flatten.proofs.Vocabulary.{◌≡◌, ◌∙◌, None, Some, ap, sym, subst, control_of, control_is, place_in}
use Rattle.design_flatten.proofs.ClockLemmas.{named_is}
use Rattle.design_flatten.proofs.clocks.resolve_control.Goals as goal

pub returns-in_default-copied-clause-ok : goal.returns-in_default-copied-clause-ok
returns-in_default-copied-clause-ok c names h =
    let w = c.in-Named.word.now in
    let found : None ≡ place_in names w = sym c.in_default-copied.is ∙ c.copied.ensures ∙ c.get.ensures.value ∙ h w in
    subst (λ k. control_of k ≡ control_is names (control_of k)) (sym c.in-Named.is) (sym (named_is names w None found))

pub returns-clause-ok : goal.returns-clause-ok
returns-clause-ok c names h =
    let w = c.in-Named.word.now in
    let found : Some c.in-Some.place ≡ place_in names w = sym c.in-Some.is ∙ c.copied.ensures ∙ c.get.ensures.value ∙ h w in
    sym (ap (λ k. control_is names (control_of k)) c.in-Named.is ∙ named_is names w (Some c.in-Some.place) found)
