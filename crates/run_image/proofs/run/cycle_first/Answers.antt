use Rattle.run_image.proofs.Together.{front-lengths}
use Rattle.run_image.proofs.run.cycle_first.Goals as goal

pub returns-clause-lengths : goal.returns-clause-lengths
returns-clause-lengths g c = front-lengths c.args.count c.args.reads.now c.cycles.new.reads c.cycles.ensures.lengths
