use Rattle.std.proofs.Common.{◌≡◌, ◌<◌, ◌≤◌, ◌*◌, ℕ, ◌&&◌, length}
use Rattle.base_bits.specs.Numbers.{has_number}
use Rattle.base_bits.proofs.bit_set.BitSet.keep.Given as goal

abbrev pub invariant-words : goal.invariant-words
invariant-words l = record {
  both : (i : ℕ) → i < 64 * l.k → has_number l.self i ≡ (has_number l.other i && has_number l.fn.self i);
  beyond : (i : ℕ) → 64 * l.k ≤ i → has_number l.self i ≡ has_number l.fn.self i;
  len_is : length l.self ≡ length l.fn.self;
}
