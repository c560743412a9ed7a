use Rattle.std.proofs.Common.{◌≡◌, ℕ, arith}
use Rattle.diag_known.proofs.Adding.{adds_next, adds_all, adds_push, adds_steps}
use Rattle.diag_known.proofs.offers.put_steps.Goals as goal

pub steps-preserved : goal.steps-preserved
steps-preserved c = adds_next c.args.route.now.crosses (λ (c x : ℕ). c ≡ x) c.steps.k c.cross_at.ensures c.steps.invariant (adds_push c.steps.ties.items c.cross_at.result c.in_ok-push.ensures.items)

pub returns : goal.returns
returns c = adds_steps c.args.route.now (adds_all c.args.route.now.crosses (λ (c x : ℕ). c ≡ x) c.steps.k (omega arith) c.steps.invariant)
