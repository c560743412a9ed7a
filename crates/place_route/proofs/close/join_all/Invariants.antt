use Rattle.place_route.proofs.Vocabulary.{◌*◌, Closes, IsOwnedJoint}
use Rattle.place_route.proofs.close.join_all.Given as goal

abbrev pub invariant-loop-wire : goal.invariant-loop-wire
invariant-loop-wire l = Closes (IsOwnedJoint l.shape l.lines l.owners l.wire) (2 * l.wire) l.fn.config.config l.config.config
