use Rattle.design_flatten.proofs.Vocabulary.{map, AreLinked, use_in}
use Rattle.design_flatten.proofs.recursion.covers_of.Given as goal

abbrev pub invariant-uses : goal.invariant-uses
invariant-uses l = AreLinked l.names (map use_in l.uses) l.place l.covers.items
