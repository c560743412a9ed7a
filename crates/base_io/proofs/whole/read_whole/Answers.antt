use Rattle.std.proofs.Common.{◌+◌, ◌≤◌, length, arith, length-take}
use Rattle.base_io.proofs.WholeLemmas.{IsFront-more}
use Rattle.base_io.proofs.whole.read_whole.Goals as goal

pub loop-block-preserved : goal.loop-block-preserved
loop-block-preserved g c =
    let d = c.in_ok-count.ensures in
    let grown = rw c.if-is_err.ensures.negation at c.extend_from_slice.ensures.items in
    let size = simp length-take at c.read.auto.into in
    let short : length c.read.new.into + length c.loop-block.text.items ≤ c.args.most + 1 = omega (arith, size, c.min-room.ensures) in
    IsFront-more _ _ _ _ _ _ c.read.new.into _ _ c.in_ok-count.count c.loop-block.invariant d.contents d.later d.asked d.room d.place d.bytes short grown
