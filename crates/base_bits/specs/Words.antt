-- Bits in words of 64, the lowest bit first.
use Rattle.std.specs.Prelude.{ℕ, ◌/◌, ◌%◌, ◌==◌, Bool, List, map, slice_index}
use Rattle.std.specs.{Int.bit_at, List.range_with_len}

abbrev pub is_bit : ℕ → ℕ → Bool
is_bit word k = bit_at word k == 1

abbrev pub is_bit_in : List ℕ → ℕ → Bool
is_bit_in words i = is_bit (slice_index words (i / 64)) (i % 64)

-- so many bits of some words, from the first on
unfoldable pub bits_of : ℕ → List ℕ → List Bool
bits_of len words = map (is_bit_in words) (range_with_len 0 len)
