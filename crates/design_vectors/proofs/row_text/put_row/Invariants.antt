use Rattle.std.proofs.Common.{◌≡◌, ◌+◌, ◌++◌, take, map, length, get_or, max}
use Rattle.design_vectors.specs.Rows.{bit_byte}
use Rattle.design_vectors.proofs.row_text.put_row.Given as goal

abbrev pub invariant-loop-k : goal.invariant-loop-k
invariant-loop-k l =
    (take (l.from + l.k) l.text.items ≡ take l.from l.fn.text.items ++ map bit_byte (take l.k l.bits)) × (length l.text.items ≡ length l.fn.text.items) × (l.k ≡ 0 → get_or l.text.items l.from 0 ≡ 46)
