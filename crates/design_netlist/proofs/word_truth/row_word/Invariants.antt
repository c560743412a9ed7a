use Rattle.design_netlist.proofs.Vocabulary.{◌≡◌, ◌<◌, ℕ, take, map, matches, bit_at, is_bit, lane_bits}
use Rattle.design_netlist.proofs.word_truth.row_word.Given as goal

abbrev pub invariant-places : goal.invariant-places
invariant-places l = (j : ℕ) → j < 64 → is_bit l.word j ≡ matches (take l.k l.row) (map (bit_at (lane_bits l.words j)) (take l.k l.ins))
