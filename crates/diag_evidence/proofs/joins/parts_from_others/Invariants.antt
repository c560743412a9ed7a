use Rattle.diag_evidence.proofs.Vocabulary.{◌≡◌, ◌||◌, true, ◌==◌, list_all, range_with_len, option_map_or, parts, pin_of}
use Rattle.diag_evidence.proofs.joins.parts_from_others.Given as goal

abbrev pub invariant-wires : goal.invariant-wires
invariant-wires l = list_all (λ u. (u == l.wire.0) || option_map_or (λ p. parts l.reads.rows p l.pin) (pin_of l.forest u) true) (range_with_len 0 l.u) ≡ true
