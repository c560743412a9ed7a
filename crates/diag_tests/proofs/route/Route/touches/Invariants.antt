use Rattle.diag_tests.proofs.Vocabulary.{◌≡◌, take, false, among}
use Rattle.diag_tests.proofs.route.Route.touches.Given as goal

abbrev pub invariant-wires : goal.invariant-wires
invariant-wires l = among (take l.k l.self.wires) l.w.0 ≡ false
