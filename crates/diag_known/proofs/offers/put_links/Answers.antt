use Rattle.diag_known.proofs.Vocabulary.{arith, slice_get-get_or, IsHung}
use Rattle.diag_known.proofs.Adding.{adds_next, adds_all}
use Rattle.diag_known.proofs.offers.put_links.Goals as goal

pub links-preserved : goal.links-preserved
links-preserved c = adds_next c.args.links.now (IsHung c.args.reaches.now.items) c.links.k (slice_get-get_or c.args.links.now c.links.k _ c.links-test.true) c.links.invariant c.in_ok-put_link.ensures

pub returns : goal.returns
returns c = adds_all c.args.links.now (IsHung c.args.reaches.now.items) c.links.k (omega arith) c.links.invariant
