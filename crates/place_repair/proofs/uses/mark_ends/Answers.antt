use Rattle.std.proofs.Common.{◌<◌, get_or, sym, ap, ◌∙◌, subst, arith}
use Rattle.place_repair.proofs.Vocabulary.{Cross, Shape, wires_of, crosses_of, is_closed, IsEndOf, no_cross, IsOfFirst, of_list}
use Rattle.place_repair.proofs.{Marking.marked_none, Marking.marked_more, Marking.first_none, Using.ends_first}
use Rattle.place_repair.proofs.uses.mark_ends.Goals as goal

pub mark_cross-requires-clause-sized : goal.mark_cross-requires-clause-sized
mark_cross-requires-clause-sized c = c.loop-k.invariant.sized ∙ c.requires ∙ ap wires_of (sym c.shape-shape.ensures.shape)

pub mark_cross-requires-clause-within : goal.mark_cross-requires-clause-within
mark_cross-requires-clause-within c =
    let on = of_list (λ (x : Cross). x.0) c.closed-closed.result.now (is_closed c.args.config.now.config) c.closed-closed.ensures c.loop-k.k no_cross c.loop-k-test.true in
    subst (λ (s : Shape). (get_or c.closed-closed.result.now c.loop-k.k no_cross).0 < crosses_of s) (sym c.shape-shape.ensures.shape) (c.shape-shape.ensures.right.crosses (get_or c.closed-closed.result.now c.loop-k.k no_cross).0 on)

pub loop-k-init : goal.loop-k-init
loop-k-init c = marked_none (IsOfFirst (λ (x : Cross). IsEndOf c.shape-shape.result x.0) no_cross c.closed-closed.result.now 0) c.args.marks.now (first_none (λ (x : Cross). IsEndOf c.shape-shape.result x.0) no_cross c.closed-closed.result.now)

pub loop-k-preserved : goal.loop-k-preserved
loop-k-preserved c = marked_more (λ (x : Cross). IsEndOf c.shape-shape.result x.0) no_cross c.closed-closed.result.now c.loop-k.k c.args.marks.now c.loop-k.marks c.mark_cross.new.marks c.loop-k.invariant c.mark_cross.ensures

pub returns : goal.returns
returns c = ends_first c.args.config.now.config c.shape-shape.result c.shape-shape.ensures.shape c.closed-closed.result.now c.closed-closed.ensures c.loop-k.k (omega arith) (omega arith) c.args.marks.now c.loop-k.marks c.loop-k.invariant
