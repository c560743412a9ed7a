use Rattle.std.proofs.Common.{◌≡◌, ◌<◌, ◌≤◌, ◌+◌, ℕ, ◌&&◌, length}
use Rattle.base_bits.specs.Numbers.{has_number}
use Rattle.base_bits.proofs.bit_set.BitSet.keep_these.Given as goal

abbrev pub invariant-numbers : goal.invariant-numbers
invariant-numbers l = record {
  both : (j : ℕ) → l.from ≤ j → j < l.i → has_number l.self j ≡ (has_number l.other j && has_number l.fn.self j);
  below : (j : ℕ) → j < l.from → has_number l.self j ≡ has_number l.fn.self j;
  beyond : (j : ℕ) → l.i ≤ j → has_number l.self j ≡ has_number l.fn.self j;
  far : (j : ℕ) → l.from + 64 ≤ j → has_number l.self j ≡ has_number l.fn.self j;
  len_is : length l.self ≡ length l.fn.self;
}
