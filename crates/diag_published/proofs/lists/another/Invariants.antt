use Rattle.diag_published.proofs.Vocabulary.{◌≡◌, ℕ, true, take, among, wire_numbers}
use Rattle.diag_published.proofs.lists.another.Given as goal

abbrev pub invariant-wires : goal.invariant-wires
invariant-wires l = (w : ℕ) → among (wire_numbers (take l.wire-index l.wires)) w ≡ true → w ≡ l.first.0
