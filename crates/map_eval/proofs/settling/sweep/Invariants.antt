use Rattle.map_eval.proofs.Vocabulary.{AreGivenBefore, IsKept}
use Rattle.map_eval.proofs.settling.sweep.Given as goal

abbrev pub invariant-words : goal.invariant-words
invariant-words l = IsKept l.plan l.state × AreGivenBefore l.plan.network l.fn.state l.state
