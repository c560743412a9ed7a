-- Words of which each bit belongs to a valuation of its own: all bits at one place of the signals' words are a lane.
use Rattle.std.specs.Prelude.{ℕ, ◌==◌, Bool, List, map}
use Rattle.std.specs.Int.{bit_at}

abbrev pub is_bit : ℕ → ℕ → Bool
is_bit word lane = bit_at word lane == 1

-- the signals' bits in a lane
abbrev pub lane_bits : List ℕ → ℕ → List Bool
lane_bits words lane = map (λ word. is_bit word lane) words
