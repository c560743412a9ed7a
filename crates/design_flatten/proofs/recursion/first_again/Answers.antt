use Rattle.design_flatten.proofs.Vocabulary.{◌≡◌, length, map, sym, subst, arith, length-map, AreGroups}
use Rattle.design_flatten.specs.Vocabulary.{AreLinked, group_at, use_in, listed, IsFirstListed}
use Rattle.design_flatten.proofs.LinkLemmas.{inputs_less, first_found}
use Rattle.design_flatten.proofs.recursion.first_again.Goals as goal

pub groups_of-requires-clause-ins : goal.groups_of-requires-clause-ins
groups_of-requires-clause-ins c =
    let us = map use_in c.args.uses.now in
    let n = length c.args.uses.now in
    let names = c.args.names.now in
    let linked : AreLinked names us n c.deref.result.now = subst (AreLinked names us n) (sym c.deref.ensures.value) c.in_ok-covers.ensures in
    λ i li k lk. (let lt = inputs_less names us n c.deref.result.now linked c.requires.names i k li lk in omega (arith, c.len-2.ensures))

pub returns-clause-ok : goal.returns-clause-ok
returns-clause-ok c =
    let us = map use_in c.args.uses.now in
    let names = c.args.names.now in
    let groups = c.in_ok-groups.groups.items in
    first_found c.args.models.now us (length c.args.uses.now) names c.in_ok-covers.covers.items groups c.first_in_group.result c.requires.uses
    (sym (length-map c.args.uses.now use_in)) c.in_ok-covers.ensures c.requires.names
    (subst (λ cs. AreGroups cs groups) c.deref.ensures.value c.in_ok-groups.ensures)
    (subst (λ gs. IsFirstListed us (λ k. group_at names gs (listed us k).model ≡ group_at names gs (listed us k).own) c.first_in_group.result) c.deref-2.ensures.value c.first_in_group.ensures)
