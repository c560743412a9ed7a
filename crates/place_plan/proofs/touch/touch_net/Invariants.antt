use Rattle.place_plan.proofs.Vocabulary.{take, IsSpread}
use Rattle.place_plan.proofs.touch.touch_net.Given as goal

abbrev pub invariant-loop-wire : goal.invariant-loop-wire
invariant-loop-wire l = IsSpread l.tree.shape (take l.wire-index l.wires) l.net.0 l.fn.touched l.touched
