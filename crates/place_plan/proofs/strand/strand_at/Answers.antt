use Rattle.std.proofs.Common.{◌≡◌, ◌<◌, Some, get_or, length, sym, ap, ◌∙◌, subst, arith}
use Rattle.place_plan.proofs.Vocabulary.{get_or_read, node_of, parent_of, at_own, IsClimb}
use Rattle.place_plan.proofs.Climbs.{climb_begins, climb_on, climb_ends, climb_meets}
use Rattle.place_plan.proofs.strand.strand_at.Goals as goal

pub returns-then-at-node : goal.returns-then-at-node
returns-then-at-node c =
    let t = c.args.tree.now in
    let lt : c.args.wire < length t.homes.items = subst (λ z. c.args.wire < z) (sym t.homed.sized) c.requires in
    let e : c.index-at.result.now ≡ get_or t.homes.items c.args.wire 0 = get_or_read t.homes.items _ _ lt c.index-at.ensures 0 in
    at_own (sym (t.homed.home c.args.wire c.requires) ∙ sym e ∙ c.if-at-node.true)

pub loop-at-init : goal.loop-at-init
loop-at-init c =
    let t = c.args.tree.now in
    let lt : c.args.wire < length t.homes.items = subst (λ z. c.args.wire < z) (sym t.homed.sized) c.requires in
    let r : c.index-at.result.now ≡ get_or t.homes.items c.args.wire 0 = get_or_read t.homes.items _ _ lt c.index-at.ensures 0 in
    let e : c.index-at.result.now ≡ node_of t.shape c.args.wire = r ∙ t.homed.home c.args.wire c.requires in
    subst (IsClimb t.shape c.args.node (node_of t.shape c.args.wire)) (sym e)
    (climb_begins t.shape (c.the_numbering_is_sound.ensures.parents t.shape) c.args.node c.args.wire c.requires (λ q. c.if-at-node.false (e ∙ sym q)))

pub returns-then-above-node : goal.returns-then-above-node
returns-then-above-node c =
    let t = c.args.tree.now in
    let lt : c.loop-at.at < length t.parents.items = subst (λ z. c.loop-at.at < z) (sym t.parented.sized) c.loop-at.invariant.within in
    let r : c.index-above.result.now ≡ get_or t.parents.items c.loop-at.at 0 = get_or_read t.parents.items _ _ lt c.index-above.ensures 0 in
    let up : parent_of t.shape c.loop-at.at ≡ Some c.index-above.result.now = t.parented.parent c.loop-at.at (omega arith) c.loop-at.invariant.within ∙ ap Some (sym r) in
    climb_meets t.shape c.args.node c.args.wire c.loop-at.at c.index-above.result.now c.loop-at.invariant up c.if-above-node.true

pub loop-at-preserved : goal.loop-at-preserved
loop-at-preserved c =
    let t = c.args.tree.now in
    let lt : c.loop-at.at < length t.parents.items = subst (λ z. c.loop-at.at < z) (sym t.parented.sized) c.loop-at.invariant.within in
    let r : c.index-above.result.now ≡ get_or t.parents.items c.loop-at.at 0 = get_or_read t.parents.items _ _ lt c.index-above.ensures 0 in
    let up : parent_of t.shape c.loop-at.at ≡ Some c.index-above.result.now = t.parented.parent c.loop-at.at (omega arith) c.loop-at.invariant.within ∙ ap Some (sym r) in
    climb_on t.shape (c.the_numbering_is_sound.ensures.parents t.shape) c.args.node _ c.loop-at.at c.index-above.result.now c.loop-at.invariant up (λ q. c.if-above-node.false (sym q))

pub returns : goal.returns
returns c = climb_ends c.args.tree.now.shape (c.the_numbering_is_sound.ensures.parents c.args.tree.now.shape) c.args.node c.args.wire c.loop-at.at c.loop-at.invariant (omega arith)
