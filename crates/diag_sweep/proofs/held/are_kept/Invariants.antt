use Rattle.diag_sweep.proofs.Vocabulary.{take, cross_numbers}
use Rattle.diag_sweep.proofs.Holding.{AreKept}
use Rattle.diag_sweep.proofs.held.are_kept.Given as goal

abbrev pub invariant-crosses : goal.invariant-crosses
invariant-crosses l = AreKept l.facts (take l.k (cross_numbers l.crosses))
