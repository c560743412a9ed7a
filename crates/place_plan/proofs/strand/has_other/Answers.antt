use Rattle.place_plan.proofs.Vocabulary.{◌≡◌, ℕ, get_or, subst, arith, rules, All, take_all, All-more, IsAt}
use Rattle.place_plan.proofs.strand.has_other.Goals as goal

pub loop-wire-preserved : goal.loop-wire-preserved
loop-wire-preserved c =
    let q : c.strand_at.result ≡ c.args.strand = search rules in
    All-more (λ (w : ℕ). IsAt c.args.tree.now.shape c.args.node w c.args.strand) c.args.wires.now c.loop-wire.wire-index 0 c.loop-wire-test.true c.loop-wire.invariant
    (subst (IsAt c.args.tree.now.shape c.args.node (get_or c.args.wires.now c.loop-wire.wire-index 0)) q c.strand_at.ensures)

pub returns-clause-no : goal.returns-clause-no
returns-clause-no c _ = subst (All (λ (w : ℕ). IsAt c.args.tree.now.shape c.args.node w c.args.strand)) (take_all c.loop-wire.wire-index c.args.wires.now (omega arith)) c.loop-wire.invariant
