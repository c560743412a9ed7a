use Rattle.example_parts.proofs.Vocabulary.{◌≡◌, ℕ, true, take, among, keeps_cross}
use Rattle.example_parts.proofs.crossbars.answers.keeps_route.Given as goal

abbrev pub invariant-steps : goal.invariant-steps
invariant-steps l = (x : ℕ) → among (take l.k l.route.crosses) x ≡ true → keeps_cross l.facts x ≡ true
