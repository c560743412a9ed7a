use Rattle.diag_known.proofs.Vocabulary.{◌<◌, length, arith, slice_get_within, IsFrom, IsOnWalk}
use Rattle.diag_known.proofs.Touring.{wanted_more}
use Rattle.diag_known.proofs.tour.walks.Goals as goal

pub wanted-preserved : goal.wanted-preserved
wanted-preserved c =
    let next = c.in_ok-add_walk.ensures in
    let below : c.wanted.w-index < length c.args.wanted.now = omega arith in
    record {
      each = next.walks;
      over = λ j w pin lt at. wanted_more (λ v. IsFrom c.args.reaches.now.items pin v → IsOnWalk c.add_walk.new.routes.items v) c.args.wanted.now c.wanted.w-index below
          (λ i u early here from. next.stay u.0 (c.wanted.invariant.over i u pin early here from)) (next.on pin) j w lt at;
    }

pub returns : goal.returns
returns c = record {
  each = c.wanted.invariant.each;
  over = λ j w at reached. c.wanted.invariant.over j w reached.pin (let h = slice_get_within c.args.wanted.now j w at in omega (arith, h)) at reached.from;
}
