use Rattle.rig_simulated.proofs.Vocabulary.{subst, slice_index, take_all, All-more, IsRankedOrLatched}
use Rattle.std.specs.List.{All}
use Rattle.rig_simulated.proofs.ranks.are_ranked.Goals as goal

pub gates-preserved : goal.gates-preserved
gates-preserved c = All-more (IsRankedOrLatched (slice_index c.args.ranks.now) c.args.most) c.args.gates.now c.gates.i _ c.gates-test.true c.gates.invariant (c.is_ranked.ensures c.if-not-is_ranked.false)

pub returns : goal.returns
returns c = λ _. subst (All (IsRankedOrLatched (slice_index c.args.ranks.now) c.args.most)) (take_all c.gates.i c.args.gates.now c.gates-test.false) c.gates.invariant
