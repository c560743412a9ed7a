use Rattle.place_repair.proofs.Vocabulary.{get_or, ap, ◌∙◌, arith, Cross, closes_none, IsKeptCrossOf, no_cross, IsOfFirst, of_list}
use Rattle.machine_config.specs.Configuration.{Configuration, is_closed}
use Rattle.place_repair.proofs.{Redone.kept_more, Redone.kept_all, Marking.first_none}
use Rattle.place_repair.proofs.drawing.keep_crosses.Goals as goal

pub keep_cross-requires-clause-shape : goal.keep_cross-requires-clause-shape
keep_cross-requires-clause-shape c = ap (λ (g : Configuration). g.shape) c.loop-k.invariant.rest ∙ c.requires.shape

pub keep_cross-requires-clause-within : goal.keep_cross-requires-clause-within
keep_cross-requires-clause-within c = c.shape-shape.ensures.right.crosses (get_or c.closed-closed.result.now c.loop-k.k no_cross).0 (of_list (λ (x : Cross). x.0) c.closed-closed.result.now (is_closed c.args.old.now.config) c.closed-closed.ensures c.loop-k.k no_cross c.loop-k-test.true)

pub loop-k-init : goal.loop-k-init
loop-k-init c = closes_none (IsOfFirst (λ (x : Cross). IsKeptCrossOf c.args.old.now.config c.args.plan.now x.0) no_cross c.closed-closed.result.now 0) 0 c.args.config.now.config (first_none (λ (x : Cross). IsKeptCrossOf c.args.old.now.config c.args.plan.now x.0) no_cross c.closed-closed.result.now)

pub loop-k-preserved : goal.loop-k-preserved
loop-k-preserved c = kept_more c.args.old.now.config c.args.plan.now c.closed-closed.result.now c.loop-k.k c.args.config.now.config c.loop-k.config.config c.keep_cross.new.config.config c.loop-k.invariant c.in_ok-keep_cross.ensures

pub returns : goal.returns
returns c = kept_all c.args.old.now.config c.args.plan.now c.closed-closed.result.now c.closed-closed.ensures c.loop-k.k (omega arith) (omega arith) c.args.config.now.config c.loop-k.config.config c.loop-k.invariant
