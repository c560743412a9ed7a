use Rattle.design_flatten.proofs.Vocabulary.{map, HaveNames, use_in}
use Rattle.design_flatten.proofs.recursion.names_in.Given as goal

abbrev pub invariant-uses : goal.invariant-uses
invariant-uses l = HaveNames l.names (map use_in l.uses) l.place
