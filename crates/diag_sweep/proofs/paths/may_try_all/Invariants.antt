use Rattle.diag_sweep.proofs.Vocabulary.{◌≡◌, ℕ, true, take, among, crosses_of_leads, MayTry}
use Rattle.diag_sweep.proofs.paths.may_try_all.Given as goal

abbrev pub invariant-leads : goal.invariant-leads
invariant-leads l = (x : ℕ) → among (crosses_of_leads (take l.k l.leads)) x ≡ true → MayTry l.facts l.field x
