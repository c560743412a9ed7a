use Rattle.design_eval.proofs.LatchLemmas.{take-one}
use Rattle.design_eval.proofs.latches.take_latch.Goals as goal

pub returns : goal.returns
returns c = record { taken = take-one c.args.taking.now.first c.args.taking.now.reads.now c.args.k c.args.state.now c.args.marks.now c.args.taking.now.values.now c.requires.within c.requires.bits c.requires.taken }
