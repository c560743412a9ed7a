use Rattle.design_flatten.proofs.Vocabulary.{◌≡◌, map, false, IsFirst, is_among, use_in, listed, number_at, names_of}
use Rattle.design_flatten.proofs.uses.first_unknown.Given as goal

abbrev pub invariant-uses : goal.invariant-uses
invariant-uses l =
    let us = map use_in l.uses in
    IsFirst (number_at us) l.place (λ k. is_among (names_of l.catalog.models.now) (listed us k).model ≡ false) l.found
