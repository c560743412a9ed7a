use Rattle.std.proofs.Common.{◌≡◌, ◌<◌, ◌*◌, ℕ, true}
use Rattle.base_bits.specs.Numbers.{has_number}
use Rattle.base_bits.proofs.bit_set.BitSet.is_within.Given as goal

abbrev pub invariant-words : goal.invariant-words
invariant-words l = (i : ℕ) → i < 64 * l.k → has_number l.self i ≡ true → has_number l.other i ≡ true
