use Rattle.diag_evidence.proofs.Vocabulary.{◌≡◌, take, map, turned}
use Rattle.diag_evidence.proofs.hangs.turn_hangs.Given as goal

abbrev pub invariant-hangs : goal.invariant-hangs
invariant-hangs l = l.turned.items ≡ map turned (take l.k l.hangs)
