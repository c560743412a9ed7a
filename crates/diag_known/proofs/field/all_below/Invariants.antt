use Rattle.diag_known.proofs.Vocabulary.{◌≡◌, ◌<◌, ℕ, length, true, has_number}
use Rattle.diag_known.proofs.field.all_below.Given as goal

abbrev pub invariant-numbers : goal.invariant-numbers
invariant-numbers l = record {
  len : length l.set ≡ l.fn.len;
  all : (i : ℕ) → i < l.i → has_number l.set i ≡ true;
}
