use Rattle.diag_tests.proofs.Closings.{laid}
use Rattle.diag_tests.proofs.configs.close_loop.Goals as goal

pub returns : goal.returns
returns c = laid c.args.config.now.config.shape c.args.left.now c.args.right.now _ _ _ _ _ c.clear.ensures.cleared c.in_ok-close_route.ensures c.in_ok-close_route-2.ensures c.in_ok-close_all.ensures
