use Rattle.std.proofs.Common.{◌≡◌, ◌<◌, ℕ, List, Some, length, get_or, set, sym, ap, ◌∙◌, subst, arith}
use Rattle.place_plan.proofs.Vocabulary.{get_or_read, node_of, parent_of, nodes_of, list_at, with_last}
use Rattle.place_plan.proofs.Spreads.{spread_begins, spread_on, spread_ends}
use Rattle.place_plan.proofs.touch.touch_up.Goals as goal

pub loop-at-init : goal.loop-at-init
loop-at-init c =
    let t = c.args.tree.now in
    let m = t.shape in
    let old : List (List ℕ) = c.args.touched.now in
    let home : ℕ = node_of m c.args.wire.0 in
    let lt : c.args.wire.0 < length t.homes.items = subst (λ z. c.args.wire.0 < z) (sym t.homed.sized) c.requires.within in
    let r : c.index-at.result.now ≡ get_or t.homes.items c.args.wire.0 0 = get_or_read t.homes.items _ _ lt c.index-at.ensures 0 in
    let e : c.index-at.result.now ≡ home = r ∙ t.homed.home c.args.wire.0 c.requires.within in
    let n : c.touch.new.touched ≡ set old c.index-at.result.now (with_last (list_at old c.index-at.result.now) c.args.net.0) = c.in_ok-touch.ensures in
    let l : home < length old = subst (λ z. home < z) (sym c.requires.sized) ((c.the_numbering_is_sound.ensures.parents m).node_within c.args.wire.0 c.requires.within) in
    rw (n, e) (spread_begins m (c.the_numbering_is_sound.ensures.parents m) old home c.args.net.0 l)

pub loop-at-preserved : goal.loop-at-preserved
loop-at-preserved c =
    let t = c.args.tree.now in
    let m = t.shape in
    let at : ℕ = c.loop-at.at in
    let within : at < nodes_of m = subst (λ z. at < z) c.requires.sized c.loop-at.invariant.within in
    let lt : at < length t.parents.items = subst (λ z. at < z) (sym t.parented.sized) within in
    let r : c.index-at-in-loop-at.result.now ≡ get_or t.parents.items at 0 = get_or_read t.parents.items _ _ lt c.index-at-in-loop-at.ensures 0 in
    let up : parent_of m at ≡ Some c.index-at-in-loop-at.result.now = t.parented.parent at (omega arith) within ∙ ap Some (sym r) in
    let n : c.touch-in-loop-at.new.touched ≡ set c.loop-at.touched c.index-at-in-loop-at.result.now (with_last (list_at c.loop-at.touched c.index-at-in-loop-at.result.now) c.args.net.0) = c.in_ok-touch-2.ensures in
    rw n (spread_on m (c.the_numbering_is_sound.ensures.parents m) c.args.touched.now c.loop-at.touched _ at c.index-at-in-loop-at.result.now c.args.net.0 c.loop-at.invariant up)

pub returns : goal.returns
returns c = spread_ends c.args.tree.now.shape (c.the_numbering_is_sound.ensures.parents c.args.tree.now.shape) c.args.touched.now c.loop-at.touched c.args.wire.0 c.loop-at.at c.args.net.0 c.loop-at.invariant (omega arith)
