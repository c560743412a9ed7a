use Rattle.diag_sweep.proofs.Vocabulary.{◌≡◌, length, take, Seen}
use Rattle.diag_sweep.proofs.seen.see_all.Given as goal

abbrev pub invariant-numbers : goal.invariant-numbers
invariant-numbers l = record {
  len : length l.seen ≡ length l.fn.seen;
  seen : Seen l.seen (take l.k l.numbers);
}
