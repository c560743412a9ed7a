use Rattle.place_plan.proofs.Vocabulary.{◌≡◌, false, take, list_any, is_shut}
use Rattle.place_plan.proofs.search.serves.Given as goal

abbrev pub invariant-loop-tap : goal.invariant-loop-tap
invariant-loop-tap l = list_any (λ t. is_shut l.defects t l.line) (take l.tap-index l.taps) ≡ false
