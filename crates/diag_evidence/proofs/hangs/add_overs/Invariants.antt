use Rattle.diag_evidence.proofs.Vocabulary.{◌≡◌, ◌++◌, take, overs}
use Rattle.diag_evidence.proofs.hangs.add_overs.Given as goal

abbrev pub invariant-hangs : goal.invariant-hangs
invariant-hangs l = l.feet.items ≡ l.fn.feet.items ++ overs (take l.k l.hangs)
