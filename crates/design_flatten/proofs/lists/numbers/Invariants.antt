use Rattle.design_flatten.proofs.Vocabulary.{◌≡◌, map, take, signal_number}
use Rattle.design_flatten.proofs.lists.numbers.Given as goal

abbrev pub invariant-words : goal.invariant-words
invariant-words l = l.found.items ≡ map (signal_number l.signals) (take l.word-index l.words)
