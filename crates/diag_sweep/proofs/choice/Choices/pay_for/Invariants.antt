use Rattle.diag_sweep.proofs.Vocabulary.{◌≡◌, ℕ, ◌+◌, ◌*◌, ◌≤◌, false, length, has_number, size_of}
use Rattle.diag_sweep.proofs.choice.Choices.pay_for.Given as goal

abbrev pub invariant-wires : goal.invariant-wires
invariant-wires l = record {
  len : length l.self.paid ≡ length l.fn.self.paid;
  pays : l.self.left + 14 * size_of l.fn.self.paid ≤ l.fn.self.left + 14 * size_of l.self.paid;
  none : ((w : ℕ) → has_number l.wires w ≡ false) → l.self ≡ l.fn.self;
}
