use Rattle.std.proofs.Common.{refl}
use Rattle.rig_simulated.proofs.Reading.{grown_more}
use Rattle.rig_simulated.proofs.readers.push_readers.Goals as goal

pub inputs-preserved : goal.inputs-preserved
inputs-preserved c = grown_more c.args.gate c.args.place c.inputs.j _ c.args.list.now.items c.inputs.list.items c.push.new.self.items c.inputs.invariant refl c.in_ok-push.ensures.items
