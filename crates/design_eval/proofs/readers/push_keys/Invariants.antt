use Rattle.design_eval.proofs.Vocabulary.{◌≡◌, ◌++◌, take, map, reader_key}
use Rattle.design_eval.proofs.readers.push_keys.Given as goal

abbrev pub invariant-ins : goal.invariant-ins
invariant-ins l = l.keys.items ≡ l.fn.keys.items ++ map (reader_key l.turn) (take l.i l.ins)
