use Rattle.place_repair.proofs.Vocabulary.{◌≡◌, range_with_len}
use Rattle.place_repair.proofs.groups.own_places.Given as goal

abbrev pub invariant-loop-wire : goal.invariant-loop-wire
invariant-loop-wire l = l.parents.items ≡ range_with_len 0 l.wire
