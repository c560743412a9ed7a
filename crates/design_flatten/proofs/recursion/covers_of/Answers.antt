use Rattle.design_flatten.proofs.Vocabulary.{◌≡◌, ◌∙◌, length, map, set, subst, arith, cover_at, AreLinked, with_input, use_in}
use Rattle.design_flatten.proofs.LinkLemmas.{both_less, linked_here}
use Rattle.design_flatten.proofs.recursion.covers_of.Goals as goal

pub overflow_cast-model : goal.overflow_cast-model
overflow_cast-model c =
    let less = both_less c.args.uses.now c.uses.place c.index-uses-place.result c.uses-test.true c.index-uses-place.is c.args.names.now c.requires.names in
    omega (arith, less.1, c.number-model.ensures, c.requires.few)

pub add_input-requires : goal.add_input-requires
add_input-requires c =
    let less = both_less c.args.uses.now c.uses.place c.index-uses-place.result c.uses-test.true c.index-uses-place.is c.args.names.now c.requires.names in
    omega (arith, less.0, c.number-own.ensures, c.uses.invariant.len)

pub uses-preserved : goal.uses-preserved
uses-preserved c =
    let cs = c.uses.covers.items in
    linked_here c.args.uses.now c.uses.place c.index-uses-place.result c.uses-test.true c.index-uses-place.is c.args.names.now cs c.add_input.new.covers.items c.requires.names
    (c.in_ok-add_input.ensures ∙ (λ i. set cs (c.number-own.ensures i) (with_input (cover_at cs (c.number-own.ensures i)) (c.number-model.ensures i))))
    c.uses.invariant

pub returns : goal.returns
returns c =
    let e : c.uses.place ≡ length c.args.uses.now = omega (arith, c.uses.auto.place-end, c.uses-test.false) in
    subst (λ n. AreLinked c.args.names.now (map use_in c.args.uses.now) n c.uses.covers.items) e c.uses.invariant
