use Rattle.design_flatten.proofs.Vocabulary.{◌≡◌, ◌∙◌, ap, sym, map, false, first_more, is_among, use_in, listed, number_at, names_of}
use Rattle.design_flatten.proofs.UseLemmas.{listed_is}
use Rattle.design_flatten.proofs.uses.first_unknown.Goals as goal

pub uses-preserved : goal.uses-preserved
uses-preserved c =
    let us = map use_in c.args.uses.now in
    let names = names_of c.args.catalog.now.models.now in
    let k = c.uses.place in
    let is = listed_is c.args.uses.now k c.index-uses-place.result c.uses-test.true c.index-uses-place.is in
    rw c.chosen-found.ensures
    (first_more (number_at us) (λ k. is_among names (listed us k).model ≡ false) k c.uses.found c.is_unknown-unknown.result c.is_sooner-sooner.result c.uses.invariant
    (λ t. ap (λ u. is_among names u.model) is ∙ c.is_unknown-unknown.ensures.0 t)
    (λ p. c.is_unknown-unknown.ensures.1 (sym (ap (λ u. is_among names u.model) is) ∙ p))
    c.is_sooner-sooner.ensures)
