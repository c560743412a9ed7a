use Rattle.place_repair.proofs.Vocabulary.{◌≡◌, length, AreNumbersTo}
use Rattle.place_repair.proofs.nets.number.Given as goal

abbrev pub invariant-loop-k : goal.invariant-loop-k
invariant-loop-k l = record {
  sized : length l.numbers ≡ length l.fn.numbers;
  so_far : AreNumbersTo l.k l.wires l.numbers;
}
