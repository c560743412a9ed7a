use Rattle.diag_known.proofs.Vocabulary.{length, refl, arith, slice_get_read, IsOn}
use Rattle.diag_known.proofs.Adding.{adds_next, adds_all}
use Rattle.diag_known.proofs.offers.put_walks.Goals as goal

pub routes-preserved : goal.routes-preserved
routes-preserved c = adds_next c.args.routes.now IsOn c.routes.k (slice_get_read c.args.routes.now (length c.args.routes.now) c.routes.k c.index-routes-k.result refl c.routes-test.true c.index-routes-k.is) c.routes.invariant c.in_ok-put_steps.ensures

pub returns : goal.returns
returns c = adds_all c.args.routes.now IsOn c.routes.k (omega arith) c.routes.invariant
