use Rattle.rig_port.proofs.Vocabulary.{◌≡◌, ◌++◌, ◌∷◌, [], take, decimal, join_by}
use Rattle.rig_port.proofs.spelling.put_numbers.Given as goal

abbrev pub invariant-numbers : goal.invariant-numbers
invariant-numbers l = l.line.items ≡ l.initial.line.items ++ join_by decimal (32 ∷ []) (take l.k l.numbers)
