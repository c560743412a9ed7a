use Rattle.place_repair.proofs.Vocabulary.{◌≡◌, map, take, nth_of}
use Rattle.place_repair.proofs.seats.moved.Given as goal

abbrev pub invariant-loop-i : goal.invariant-loop-i
invariant-loop-i l = l.moved.items ≡ map (nth_of l.places) (take l.i l.pins)
