use Rattle.diag_sweep.proofs.Vocabulary.{◌≡◌, ℕ, true, take, among, crosses_along, MayTry}
use Rattle.diag_sweep.proofs.paths.may_try_along.Given as goal

abbrev pub invariant-places : goal.invariant-places
invariant-places l = (x : ℕ) → among (take l.k (crosses_along l.lead)) x ≡ true → MayTry l.facts l.field x
