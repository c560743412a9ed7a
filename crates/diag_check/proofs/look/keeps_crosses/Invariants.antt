use Rattle.diag_check.proofs.Vocabulary.{◌≡◌, ◌<◌, ℕ, true, get_or, Cross, keeps_cross}
use Rattle.diag_check.proofs.look.keeps_crosses.Given as goal

abbrev pub invariant-crosses : goal.invariant-crosses
invariant-crosses l = (k : ℕ) (d : Cross) → k < l.j → keeps_cross l.facts (get_or l.crosses k d).0 ≡ true
