use Rattle.std.proofs.Common.{length, arith, ◌∙◌}
use Rattle.design_eval.proofs.LatchLemmas.{put-both, put-all, chunk-more}
use Rattle.design_eval.proofs.latches.put_changed.Goals as goal

pub chunks-preserved : goal.chunks-preserved
chunks-preserved c = (
  put-both c.args.giving.now.readers.now c.args.giving.now.drives.now c.args.giving.now.state.now c.args.last.now c.args.marks.now c.args.values.now c.chunks.last c.chunks.marks c.chunks.values
      c.put_chunk.new.last c.put_chunk.new.marks c.put_chunk.new.values c.chunks.invariant.0 c.put_chunk.ensures.put,
  c.put_chunk.auto.hints ∙ c.chunks.invariant.1,
  chunk-more c.args.giving.now.state.now c.chunks.last c.put_chunk.new.last c.chunks.i (length c.args.giving.now.drives.now) c.min-to.result c.chunks.invariant.2 c.put_chunk.ensures.put.stays
      c.put_chunk.ensures.done (λ j jc ji. omega (arith, c.min-to.ensures, jc, ji)),
)

pub returns-clause-values : goal.returns-clause-values
returns-clause-values c =
    put-all c.args.giving.now.readers.now c.args.giving.now.drives.now c.args.giving.now.state.now c.args.last.now c.args.marks.now c.args.values.now c.chunks.last c.chunks.marks c.chunks.values c.chunks.invariant.0
    c.requires.given (λ k lk. c.chunks.invariant.2 k (omega (arith, c.chunks-test.false, lk)) lk)
