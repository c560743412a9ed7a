use Rattle.diag_growth.proofs.Remaining.{AreLeftBelow}
use Rattle.diag_growth.proofs.rest.left_crosses.Given as goal

abbrev pub invariant-crosses : goal.invariant-crosses
invariant-crosses l = AreLeftBelow l.facts l.known.steps l.field.crosses l.set l.x
