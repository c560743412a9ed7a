use Rattle.place_plan.proofs.Vocabulary.{length, AreLists, CrossesAt, HasTerminal}
use Rattle.place_plan.proofs.ports.crossings.Given as goal

abbrev pub invariant-loop-n : goal.invariant-loop-n
invariant-loop-n l = AreLists l.n (CrossesAt l.tree.shape (length l.nets) (HasTerminal l.nets)) l.lists.items
