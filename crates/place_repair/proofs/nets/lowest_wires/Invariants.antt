use Rattle.place_repair.proofs.Vocabulary.{AreThose, IsAmongFirst, same_number, IsLowest}
use Rattle.place_repair.proofs.nets.lowest_wires.Given as goal

abbrev pub invariant-loop-w : goal.invariant-loop-w
invariant-loop-w l = AreThose (IsAmongFirst same_number l.w (IsLowest l.config.config)) l.lowest
