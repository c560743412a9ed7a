use Rattle.std.proofs.Common.{◌∙◌}
use Rattle.design_eval.proofs.LatchLemmas.{put-both, done-more}
use Rattle.design_eval.proofs.latches.put_chunk.Goals as goal

pub latches-preserved : goal.latches-preserved
latches-preserved c = (
  put-both c.args.giving.now.readers.now c.args.giving.now.drives.now c.args.giving.now.state.now c.args.last.now c.args.marks.now c.args.values.now c.latches.last c.latches.marks c.latches.values
      c.put_latch.new.last c.put_latch.new.marks c.put_latch.new.values c.latches.invariant.0 c.put_latch.ensures.put,
  c.put_latch.auto.hints ∙ c.latches.invariant.1,
  done-more c.args.giving.now.state.now c.latches.last c.put_latch.new.last c.args.chunk.from c.latches.k c.latches.invariant.2 c.put_latch.ensures.put.stays c.put_latch.ensures.done,
)
