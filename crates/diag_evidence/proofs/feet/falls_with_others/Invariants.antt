use Rattle.diag_evidence.proofs.Vocabulary.{◌≡◌, ◌&&◌, not, false, ◌==◌, list_any, range_with_len, pin_wire, is_hung, read_under}
use Rattle.diag_evidence.proofs.feet.falls_with_others.Given as goal

abbrev pub invariant-pins : goal.invariant-pins
invariant-pins l = list_any (λ k. not (k == l.pin) && (is_hung l.forest (pin_wire l.forest.shape k) && not (read_under l.reads.rows k l.pin))) (range_with_len 0 l.k) ≡ false
