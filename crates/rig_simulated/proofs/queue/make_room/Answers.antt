use Rattle.std.proofs.Common.{◌∙◌, sym}
use Rattle.rig_simulated.proofs.Queueing.{queue_none}
use Rattle.rig_simulated.proofs.queue.make_room.Goals as goal

pub returns-clause-queue : goal.returns-clause-queue
returns-clause-queue c = queue_none c.places.queue (c.places.invariant.due ∙ sym c.places.invariant.marks) c.places.invariant.count c.places.invariant.none
