use Rattle.rig_simulated.specs.Pasts.{AreGiven}
use Rattle.rig_simulated.proofs.past.put_outputs.Given as goal

abbrev pub invariant-gates : goal.invariant-gates
invariant-gates l = AreGiven l.k l.gates l.outputs
