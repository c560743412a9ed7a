use Rattle.diag_sweep.proofs.Vocabulary.{◌≡◌, take, overs}
use Rattle.diag_sweep.proofs.footing.first_feet.Given as goal

abbrev pub invariant-hangs : goal.invariant-hangs
invariant-hangs l = l.feet.items ≡ overs (take l.k l.hangs)
