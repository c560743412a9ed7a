use Rattle.design_flatten.proofs.Vocabulary.{◌≡◌, ◌∙◌, ap, sym, subst, map, IsSome, first_more}
use Rattle.design_flatten.specs.Vocabulary.{model_named, Use, formal_fault, use_in, listed, number_at, shown}
use Rattle.design_flatten.proofs.UseLemmas.{listed_is, some_shown, shown_some}
use Rattle.design_flatten.proofs.formals.first_wrongly_given.Goals as goal

pub uses-preserved : goal.uses-preserved
uses-preserved c =
    let us = map use_in c.args.uses.now in
    let ms = c.args.catalog.now.models.now in
    let k = c.uses.place in
    let fault = λ (u : Use). formal_fault (model_named ms u.model) u.pairs in
    let at : shown c.in_ok-fault_of.field-0 ≡ fault (listed us k) = c.in_ok-fault_of.ensures ∙ sym (ap fault (listed_is c.args.uses.now k c.index-uses-place.result c.uses-test.true c.index-uses-place.is)) in
    rw c.chosen-found.ensures
    (first_more (number_at us) (λ k. IsSome (fault (listed us k))) k c.uses.found c.is_some-wrong.result c.is_sooner-sooner.result c.uses.invariant
    (λ t. subst IsSome at (some_shown c.in_ok-fault_of.field-0 c.is_some-wrong.result c.is_some-wrong.ensures t))
    (λ p. shown_some c.in_ok-fault_of.field-0 c.is_some-wrong.result c.is_some-wrong.ensures (subst IsSome (sym at) p))
    c.is_sooner-sooner.ensures)
