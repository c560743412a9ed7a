use Rattle.design_flatten.proofs.Vocabulary.{◌∙◌, ap, with_name}
use Rattle.design_flatten.proofs.LinkLemmas.{names_here}
use Rattle.design_flatten.proofs.recursion.names_in.Goals as goal

pub uses-preserved : goal.uses-preserved
uses-preserved c =
    let u = c.index-uses-place.result in
    names_here c.args.uses.now c.uses.place u c.uses-test.true c.index-uses-place.is c.uses.names c.add-in-uses.new.self
    (c.in_ok-add-2.ensures ∙ ap (λ ns. with_name ns u.model.now) c.in_ok-add.ensures) c.uses.invariant
