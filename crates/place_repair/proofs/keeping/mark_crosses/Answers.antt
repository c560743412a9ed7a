use Rattle.place_repair.proofs.Vocabulary.{get_or, ◌∙◌, arith, Cross, is_closed, IsUnfreeCrossOf, no_cross, of_list}
use Rattle.place_repair.proofs.{Unbroken.crosses_first, Marking.marked_none, Marking.marked_more, Marking.first_none}
use Rattle.place_repair.proofs.keeping.mark_crosses.Goals as goal

pub mark_cross-requires-clause-sized : goal.mark_cross-requires-clause-sized
mark_cross-requires-clause-sized c = c.loop-k.invariant.sized ∙ c.requires.sized

pub mark_cross-requires-clause-within : goal.mark_cross-requires-clause-within
mark_cross-requires-clause-within c = c.shape-shape.ensures.right.crosses (get_or c.closed-closed.result.now c.loop-k.k no_cross).0 (of_list (λ (x : Cross). x.0) c.closed-closed.result.now (is_closed c.args.config.now.config) c.closed-closed.ensures c.loop-k.k no_cross c.loop-k-test.true)

pub loop-k-init : goal.loop-k-init
loop-k-init c = marked_none _ c.args.marks.now (first_none (λ (x : Cross). IsUnfreeCrossOf c.args.defects.now.list c.args.config.now.config c.args.nets.now.lowest x.0) no_cross c.closed-closed.result.now)

pub loop-k-preserved : goal.loop-k-preserved
loop-k-preserved c = marked_more (λ (x : Cross). IsUnfreeCrossOf c.args.defects.now.list c.args.config.now.config c.args.nets.now.lowest x.0) no_cross c.closed-closed.result.now c.loop-k.k c.args.marks.now c.loop-k.marks c.mark_cross.new.marks c.loop-k.invariant c.mark_cross.ensures

pub returns : goal.returns
returns c = crosses_first c.args.defects.now.list c.args.config.now.config c.args.nets.now.lowest c.closed-closed.result.now c.closed-closed.ensures c.loop-k.k (omega arith) (omega arith) c.args.marks.now c.loop-k.marks c.loop-k.invariant
