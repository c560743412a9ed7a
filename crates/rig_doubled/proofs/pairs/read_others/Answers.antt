use Rattle.rig_doubled.proofs.Vocabulary.{length, narrows_cycles}
use Rattle.rig_doubled.proofs.Keeping.{keeps_front}
use Rattle.rig_doubled.proofs.pairs.read_others.Goals as goal

pub returns-clause-lengths : goal.returns-clause-lengths
returns-clause-lengths g c = keeps_front (length c.args.drives.now) c.args.others.now c.cycles.new.reads c.cycles.ensures.lengths

pub returns-clause-narrows : goal.returns-clause-narrows
returns-clause-narrows g c = narrows_cycles c.args.drives.now c.cycles.new.reads c.cycles.result c.cycles.ensures.machine c.cycles.ensures.cycles c.cycles.ensures.refused
