use Rattle.base_text.proofs.Vocabulary.{◌≡◌, ◌++◌, ◌≤◌, drop, length, decimal}
use Rattle.base_text.proofs.numerals.write_digits.Given as goal

abbrev pub invariant-digits : goal.invariant-digits
invariant-digits l = record {
  numeral : decimal l.left ++ drop l.place l.digits ≡ decimal l.n;
  room : length (decimal l.left) ≤ l.place;
  within : l.place ≤ 20;
  size : length l.digits ≡ 20;
}

abbrev pub decreases-digits : goal.decreases-digits
decreases-digits l = l.place
