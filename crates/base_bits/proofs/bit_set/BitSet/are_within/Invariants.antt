use Rattle.std.proofs.Common.{◌≡◌, ◌<◌, ◌≤◌, ℕ, true}
use Rattle.base_bits.specs.Numbers.{has_number}
use Rattle.base_bits.proofs.bit_set.BitSet.are_within.Given as goal

abbrev pub invariant-numbers : goal.invariant-numbers
invariant-numbers l = (j : ℕ) → l.from ≤ j → j < l.i → has_number l.self j ≡ true → has_number l.other j ≡ true
