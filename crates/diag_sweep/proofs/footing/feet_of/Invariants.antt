use Rattle.diag_sweep.proofs.Vocabulary.{◌≡◌, ◌++◌, take, others, overs}
use Rattle.diag_sweep.proofs.footing.feet_of.Given as goal

abbrev pub invariant-hangs : goal.invariant-hangs
invariant-hangs l = l.feet.items ≡ overs l.hangs ++ others (take l.k l.hangs)
