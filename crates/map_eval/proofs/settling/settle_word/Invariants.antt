use Rattle.map_eval.proofs.Vocabulary.{AreGivenBefore, IsKept}
use Rattle.map_eval.proofs.settling.settle_word.Given as goal

abbrev pub invariant-bits : goal.invariant-bits
invariant-bits l = IsKept l.plan l.state × AreGivenBefore l.plan.network l.fn.state l.state
