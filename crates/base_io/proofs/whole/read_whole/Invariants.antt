use Rattle.std.proofs.Common.{◌+◌, ◌-◌, length}
use Rattle.base_io.specs.Whole.{IsFront}
use Rattle.base_io.proofs.whole.read_whole.Given as goal

abbrev pub invariant-loop-block : goal.invariant-loop-block
invariant-loop-block g l =
    let state = g.S.Store.store_state in IsFront l.name l.most (state l.fn.store) (state l.store) l.text.items

abbrev pub decreases-loop-block : goal.decreases-loop-block
decreases-loop-block g l = l.most + 1 - length l.text.items
