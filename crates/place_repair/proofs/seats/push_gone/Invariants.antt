use Rattle.place_repair.proofs.Vocabulary.{◌≡◌, ◌++◌, take, filter, is_gone_pin}
use Rattle.place_repair.proofs.seats.push_gone.Given as goal

abbrev pub invariant-loop-i : goal.invariant-loop-i
invariant-loop-i l = l.gone ≡ l.fn.gone ++ filter (is_gone_pin l.defects.shape l.defects.list) (take l.i l.pins)
