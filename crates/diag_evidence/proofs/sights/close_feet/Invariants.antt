use Rattle.diag_evidence.proofs.Vocabulary.{take, Closes, feet_crosses}
use Rattle.diag_evidence.proofs.sights.close_feet.Given as goal

abbrev pub invariant-feet : goal.invariant-feet
invariant-feet l = Closes (take l.k (feet_crosses l.feet)) l.fn.config.config l.config.config
