use Rattle.rig_simulated.proofs.Reading.{HaveGrownBy}
use Rattle.rig_simulated.proofs.readers.push_readers.Given as goal

abbrev pub invariant-inputs : goal.invariant-inputs
invariant-inputs l = HaveGrownBy l.gate l.place l.j l.fn.list.items l.list.items
