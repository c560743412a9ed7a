use Rattle.rig_simulated.proofs.Vocabulary.{◌≡◌, AreGiven}
use Rattle.rig_simulated.proofs.past.other_from.Given as goal

abbrev pub invariant-gates : goal.invariant-gates
invariant-gates l = l.from ≡ 0 → AreGiven l.k l.gates l.outputs
