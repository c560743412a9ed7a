use Rattle.place_plan.proofs.Vocabulary.{◌≢◌, subst, arith, rules, All, take_all, All-more, Outside, IsInside}
use Rattle.place_plan.proofs.Places.{inside_is}
use Rattle.place_plan.proofs.strand.leaves.Goals as goal

pub loop-wire-preserved : goal.loop-wire-preserved
loop-wire-preserved c =
    let ne : c.strand_at.result ≢ Outside = search rules in
    All-more (IsInside c.args.tree.now.shape c.args.node) c.args.wires.now c.loop-wire.wire-index 0 c.loop-wire-test.true c.loop-wire.invariant (inside_is c.args.tree.now.shape c.strand_at.ensures ne)

pub returns-clause-no : goal.returns-clause-no
returns-clause-no c _ = subst (All (IsInside c.args.tree.now.shape c.args.node)) (take_all c.loop-wire.wire-index c.args.wires.now (omega arith)) c.loop-wire.invariant
