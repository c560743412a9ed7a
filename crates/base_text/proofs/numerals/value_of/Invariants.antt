use Rattle.base_text.proofs.Vocabulary.{◌≡◌, ◌≤◌, drop, all_ascii_digits, read_on}
use Rattle.base_text.proofs.numerals.value_of.Given as goal

abbrev pub invariant-digits : goal.invariant-digits
invariant-digits l = record {
  value : read_on l.number (drop l.b-index l.word) ≡ read_on 0 l.word;
  digits : all_ascii_digits (drop l.b-index l.word) ≡ all_ascii_digits l.word;
  within : l.number ≤ l.most;
}
