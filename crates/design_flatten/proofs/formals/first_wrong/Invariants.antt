use Rattle.design_flatten.proofs.Vocabulary.{◌≡◌, take, drop, [], first_wrong, with_names, formals_in}
use Rattle.design_flatten.proofs.formals.first_wrong.Given as goal

abbrev pub invariant-pairs : goal.invariant-pairs
invariant-pairs l = record {
  left : first_wrong l.ports l.given (formals_in (drop l.pair-index l.pairs)) ≡ first_wrong l.ports [] (formals_in l.pairs);
  given : l.given ≡ with_names [] (formals_in (take l.pair-index l.pairs));
}
