use Rattle.design_eval.proofs.LatchLemmas.{put-one}
use Rattle.design_eval.proofs.latches.put_latch.Goals as goal

pub returns-clause-put : goal.returns-clause-put
returns-clause-put c =
    put-one c.args.giving.now.readers.now c.args.giving.now.drives.now c.args.giving.now.state.now c.args.last.now c.args.marks.now c.args.values.now c.give.new.marks c.give.new.values c.args.k c.give.ensures c.requires.within
    c.requires.bits c.requires.last c.requires.below c.requires.apart
