use Rattle.diag_tests.proofs.Vocabulary.{◌≡◌, ℕ, take, true, false, among}
use Rattle.diag_tests.proofs.route.Route.meets.Given as goal

abbrev pub invariant-wires : goal.invariant-wires
invariant-wires l = (w : ℕ) → among (take l.k l.self.wires) w ≡ true → among l.other.wires w ≡ false
