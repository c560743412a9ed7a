use Rattle.rig_simulated.proofs.Vocabulary.{◌≡◌, ◌≤◌, take, subst, ◌∙◌, arith, take_all, high_limits, stuck_wire, AreTied, bridged_net}
use Rattle.rig_simulated.proofs.{Joining.tied_alike, Links.bridged_more, Links.all_bridged, Links.bridge_is}
use Rattle.rig_simulated.proofs.base.bridge_all.Goals as goal

pub join-requires-clause-a : goal.join-requires-clause-a
join-requires-clause-a c =
    let is = c.shape-shape.ensures.kept.faults.bridges _ _ (bridge_is c.args.faults.now.shape c.bridges-bridges.result.now c.args.faults.now.faults c.bridges-bridges.ensures.all c.bridges.i (record { 0 = 0 }, record { 0 = 0 }) c.bridges-test.true) in
    omega (arith, is.0, c.bridges.invariant.len, c.requires.len)

pub join-requires-clause-b : goal.join-requires-clause-b
join-requires-clause-b c =
    let is = c.shape-shape.ensures.kept.faults.bridges _ _ (bridge_is c.args.faults.now.shape c.bridges-bridges.result.now c.args.faults.now.faults c.bridges-bridges.ensures.all c.bridges.i (record { 0 = 0 }, record { 0 = 0 }) c.bridges-test.true) in
    omega (arith, is.1, c.bridges.invariant.len, c.requires.len)

pub bridges-preserved : goal.bridges-preserved
bridges-preserved c = record {
  len = c.join.ensures.len ∙ c.bridges.invariant.len;
  tied = c.join.ensures.joined _ _ (stuck_wire c.args.faults.now.faults) c.bridges.i c.bridges.invariant.tied (bridged_more c.args.faults.now.shape c.bridges-bridges.result.now c.bridges.i _ c.bridges-test.true);
}

pub returns-clause-tied : goal.returns-clause-tied
returns-clause-tied c =
    let all : take c.bridges.i c.bridges-bridges.result.now ≡ c.bridges-bridges.result.now = take_all c.bridges.i c.bridges-bridges.result.now (omega arith) in
    let most = (high_limits c.args.faults.now.shape).faults.1 in
    let few : c.bridges.i ≤ 16777216 = omega (arith, c.bridges-bridges.ensures.once, c.shape-shape.ensures.kept.few, most) in
    tied_alike 16777216 (all_bridged c.args.faults.now.shape c.bridges-bridges.result.now c.args.faults.now.faults c.bridges-bridges.ensures.all) few
    (subst (λ ps. AreTied (bridged_net c.args.faults.now.shape ps) (stuck_wire c.args.faults.now.faults) c.bridges.knots c.bridges.i) all c.bridges.invariant.tied)
