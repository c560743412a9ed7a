use Rattle.design_flatten.proofs.Vocabulary.{map, ◌≡◌, IsFirst, group_at, use_in, listed, number_at}
use Rattle.design_flatten.proofs.recursion.first_in_group.Given as goal

abbrev pub invariant-uses : goal.invariant-uses
invariant-uses l =
    let us = map use_in l.uses in
    let group = group_at l.names l.groups in
    IsFirst (number_at us) l.place (λ k. group (listed us k).model ≡ group (listed us k).own) l.found
