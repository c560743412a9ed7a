use Rattle.design_flatten.proofs.Vocabulary.{map, IsSome, IsFirst, model_named, formal_fault, use_in, listed, number_at}
use Rattle.design_flatten.proofs.formals.first_wrongly_given.Given as goal

abbrev pub invariant-uses : goal.invariant-uses
invariant-uses l =
    let us = map use_in l.uses in
    IsFirst (number_at us) l.place (λ k. IsSome (formal_fault (model_named l.catalog.models.now (listed us k).model) (listed us k).pairs)) l.found
