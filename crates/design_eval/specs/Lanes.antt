-- Tables in all lanes at once.
use Rattle.std.specs.Prelude.{ℕ, zero, suc, ◌*◌, Bool, if◌then◌else◌}
use Rattle.design_netlist.specs.Lanes.{is_bit}

-- the bit of one word, or of the other where the choice is 1
abbrev pub chosen : ℕ → ℕ → ℕ → ℕ → Bool
chosen choice zero_word one_word lane = if is_bit choice lane then is_bit one_word lane else is_bit zero_word lane

-- how many addresses so many inputs have
unfoldable pub addresses : ℕ → ℕ
addresses zero = 1
addresses (suc n) = 2 * addresses n
