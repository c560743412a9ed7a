use Rattle.design_eval.proofs.Vocabulary.{IsSettledTo, places}
use Rattle.design_eval.proofs.turns.settle.Given as goal

abbrev pub invariant-turns : goal.invariant-turns
invariant-turns l = IsSettledTo l.covers (places l.turns) l.k l.fn.values l.values
