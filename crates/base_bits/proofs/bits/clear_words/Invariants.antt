use Rattle.std.proofs.Common.{◌≡◌, ◌<◌, ℕ, length, get_or}
use Rattle.base_bits.proofs.bits.clear_words.Given as goal

abbrev pub invariant-words : goal.invariant-words
invariant-words l = record {
  none : (j : ℕ) → j < l.k → get_or l.words j 0 ≡ 0;
  len_is : length l.words ≡ length l.fn.words;
}
