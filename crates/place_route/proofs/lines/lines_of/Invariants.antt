use Rattle.place_route.proofs.Vocabulary.{take, AreLines}
use Rattle.place_route.proofs.lines.lines_of.Given as goal

abbrev pub invariant-loop-visit : goal.invariant-loop-visit
invariant-loop-visit l = AreLines (take l.visit-index l.visits) l.lines
