use Rattle.place_plan.proofs.Vocabulary.{take, AreGrouped}
use Rattle.place_plan.proofs.terminals.grouped.Given as goal

abbrev pub invariant-loop-terminal : goal.invariant-loop-terminal
invariant-loop-terminal l = AreGrouped l.count (take l.terminal-index l.terminals) l.nets.items
