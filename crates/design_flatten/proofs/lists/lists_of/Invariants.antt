use Rattle.design_flatten.proofs.Vocabulary.{map, take, AreLists, placed_line}
use Rattle.design_flatten.proofs.lists.lists_of.Given as goal

abbrev pub invariant-placed : goal.invariant-placed
invariant-placed l = AreLists l.signals (map placed_line (take l.line-index l.placed)) l.lists
