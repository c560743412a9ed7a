use Rattle.diag_tests.proofs.Vocabulary.{◌≡◌, ◌<◌, length, get_or, arith, gets}
use Rattle.diag_tests.proofs.Closings.{closes_next, among_at}
use Rattle.diag_tests.proofs.configs.close_route.Goals as goal

pub close_cross-requires : goal.close_cross-requires
close_cross-requires c =
    let below : c.steps.k < length c.args.route.now.crosses = omega arith in
    rw c.steps.invariant.shape (c.requires.crosses _ (among_at c.args.route.now.crosses c.steps.k _ below c.cross_at.ensures))

pub steps-preserved : goal.steps-preserved
steps-preserved c =
    let below : c.steps.k < length c.args.route.now.crosses = omega arith in
    let value : get_or c.args.route.now.crosses c.steps.k 0 ≡ c.cross_at.result.0 = grind (arith, gets, c.cross_at.ensures) in
    rw c.in_ok-close_cross.ensures.closed (closes_next c.args.route.now.crosses c.steps.k _ _ _ below value c.steps.invariant)
