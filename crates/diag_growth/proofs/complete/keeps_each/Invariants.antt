use Rattle.diag_growth.proofs.Vocabulary.{◌≡◌, ◌<◌, ℕ, true, has_number, keeps_cross}
use Rattle.diag_growth.proofs.complete.keeps_each.Given as goal

abbrev pub invariant-crosses : goal.invariant-crosses
invariant-crosses l = (y : ℕ) → y < l.x → has_number l.field.crosses y ≡ true → keeps_cross l.facts y ≡ true
