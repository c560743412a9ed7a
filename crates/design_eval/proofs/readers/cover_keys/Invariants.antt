use Rattle.design_eval.proofs.Vocabulary.{places, AreKeys}
use Rattle.design_eval.proofs.readers.cover_keys.Given as goal

abbrev pub invariant-turns : goal.invariant-turns
invariant-turns l = AreKeys l.covers (places l.turns) l.k l.keys.items
