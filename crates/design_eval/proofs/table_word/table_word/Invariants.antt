use Rattle.std.proofs.Common.{◌≡◌, ◌-◌, ◌<◌, ℕ, get_or, take, drop, false}
use Rattle.design_eval.proofs.Vocabulary.{number_at, bit_at, is_bit, lane_bits, addresses, address}
use Rattle.design_eval.proofs.table_word.table_word.Given as goal

abbrev pub invariant-inputs : goal.invariant-inputs
invariant-inputs l =
    (l.size ≡ addresses (l.count - l.k)) ×
    ((j : ℕ) → j < 64 → is_bit (number_at l.parts (address (bit_at (lane_bits l.words j)) (drop l.k (take l.count l.table.wires)))) j ≡ get_or l.table.cells (address (bit_at (lane_bits l.words j)) (take l.count l.table.wires)) false)
