use Rattle.diag_machine.proofs.Vocabulary.{IfSome, Wire, IsKnownFoot}
use Rattle.diag_machine.proofs.lost.has_feet.Given as goal

abbrev pub invariant-lines : goal.invariant-lines
invariant-lines l = IfSome l.first (λ (w : Wire). IsKnownFoot l.facts l.known.steps l.pin.0 w.0)
