use Rattle.diag_evidence.proofs.Vocabulary.{◌≢◌, ◌<◌, ℕ, true, get_or, Walk}
use Rattle.diag_evidence.proofs.readings.all_differ.Given as goal

abbrev pub invariant-routes : goal.invariant-routes
invariant-routes l = (j : ℕ) (d : Walk) → j < l.k → get_or l.read l.pin true ≢ get_or l.read (get_or l.routes j d).pin true
