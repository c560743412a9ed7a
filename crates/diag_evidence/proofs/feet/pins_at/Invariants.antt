use Rattle.diag_evidence.proofs.Vocabulary.{◌≡◌, take, map, pin_at}
use Rattle.diag_evidence.proofs.feet.pins_at.Given as goal

abbrev pub invariant-feet : goal.invariant-feet
invariant-feet l = l.pins.items ≡ map (pin_at l.forest) (take l.k l.feet)
