use Rattle.design_flatten.specs.Links.{AreBare}
use Rattle.design_flatten.proofs.recursion.bare_covers.Given as goal

abbrev pub invariant-names : goal.invariant-names
invariant-names l = AreBare l.number l.covers.items
