use Rattle.diag_evidence.proofs.Vocabulary.{◌≡◌, ◌||◌, true, take, ◌==◌, list_all, pin_at, parts}
use Rattle.diag_evidence.proofs.feet.others_part.Given as goal

abbrev pub invariant-feet : goal.invariant-feet
invariant-feet l = list_all (λ other. (other.0.0 == l.foot.0.0) || parts l.reads.rows (pin_at l.forest other) (pin_at l.forest l.foot)) (take l.k l.feet) ≡ true
