use Rattle.design_netlist.proofs.Vocabulary.{◌≡◌, ◌<◌, ℕ, take, map, some_matches, bit_at, is_bit, lane_bits}
use Rattle.design_netlist.proofs.word_truth.rows_word.Given as goal

abbrev pub invariant-rows : goal.invariant-rows
invariant-rows l = (j : ℕ) → j < 64 → is_bit l.word j ≡ some_matches (take l.k l.rows) (map (bit_at (lane_bits l.words j)) l.ins)
