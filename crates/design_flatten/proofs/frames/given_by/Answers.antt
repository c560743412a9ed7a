use Rattle.design_flatten.proofs.Vocabulary.{◌<◌, ◌∙◌, length, arith, [], place_of, becomes}
use Rattle.design_flatten.proofs.WorkLemmas.{given_more}
use Rattle.design_flatten.proofs.frames.given_by.Goals as goal

pub pairs-preserved : goal.pairs-preserved
pairs-preserved c =
    let f = c.args.frame.now in
    record {
      used = c.give.ensures.used ∙ c.pairs.invariant.used;
      is = λ w.
          let lt : c.pairs.pair-index < length c.args.pairs.now = omega arith in
          let more = given_more (becomes (place_of f.given []) f.names.now) c.args.pairs.now c.pairs.pair-index c.pair-item.result w lt in
          let is = c.pair-item.is in
          let here = c.in_ok-give.ensures.given w in
          let before = c.pairs.invariant.is w in
          let text = c.as_slice.ensures in
          let actual = c.signal-actual.ensures in
          rw more (rw (← is) (rw (← text, ← actual, ← before) here));
    }
