use Rattle.rig_simulated.proofs.Queueing.{due_place, count_within}
use Rattle.std.proofs.Common.{arith}
use Rattle.rig_simulated.proofs.queue.place_at.Goals as goal

pub index-requires : goal.index-requires
index-requires c = let l = count_within c.args.queue.now c.requires.queue in omega (arith, l, c.requires.within)

pub returns-clause-place : goal.returns-clause-place
returns-clause-place c = (due_place c.args.queue.now c.requires.queue c.args.i c.index.result.now c.requires.within c.index.ensures).0

pub returns-clause-within : goal.returns-clause-within
returns-clause-within c = (due_place c.args.queue.now c.requires.queue c.args.i c.index.result.now c.requires.within c.index.ensures).1
