use Rattle.design_flatten.proofs.Vocabulary.{◌≡◌, ◌∙◌, sym, ap, map, eqb, eqb-true, eq-eqb, first_more, group_at, use_in, listed, number_at}
use Rattle.design_flatten.proofs.UseLemmas.{listed_is}
use Rattle.design_flatten.proofs.recursion.first_in_group.Goals as goal

pub uses-preserved : goal.uses-preserved
uses-preserved c =
    let us = map use_in c.args.uses.now in
    let k = c.uses.place in
    let group = group_at c.args.names.now c.args.groups.now in
    let is = listed_is c.args.uses.now k c.index-uses-place.result c.uses-test.true c.index-uses-place.is in
    let model : c.group_of.result ≡ group (listed us k).model = c.group_of.ensures ∙ sym (ap (λ u. group u.model) is) in
    let own : c.group_of-in-uses.result ≡ group (listed us k).own = c.group_of-in-uses.ensures ∙ sym (ap (λ u. group u.own) is) in
    rw c.chosen-found.ensures
    (first_more (number_at us) (λ k. group (listed us k).model ≡ group (listed us k).own) k c.uses.found (eqb c.group_of.result c.group_of-in-uses.result) c.is_sooner-sooner.result c.uses.invariant
    (λ t. sym model ∙ eqb-true _ _ t ∙ own)
    (λ p. eq-eqb _ _ (model ∙ p ∙ sym own))
    c.is_sooner-sooner.ensures)
