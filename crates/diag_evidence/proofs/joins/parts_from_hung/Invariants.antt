use Rattle.diag_evidence.proofs.Vocabulary.{◌≡◌, ◌||◌, not, true, ◌==◌, list_all, range_with_len, pin_wire, is_hung, parts}
use Rattle.diag_evidence.proofs.joins.parts_from_hung.Given as goal

abbrev pub invariant-pins : goal.invariant-pins
invariant-pins l = list_all (λ k. (k == l.pin) || (not (is_hung l.forest (pin_wire l.forest.shape k)) || parts l.reads.rows k l.pin)) (range_with_len 0 l.k) ≡ true
