use Rattle.place_pair.proofs.Vocabulary.{◌≡◌, ◌++◌, map, take, moved}
use Rattle.place_pair.proofs.joining.push_outputs.Given as goal

abbrev pub invariant-outputs : goal.invariant-outputs
invariant-outputs l = l.outputs.items ≡ l.fn.outputs.items ++ map (moved l.inputs l.before) (take l.k l.from)
