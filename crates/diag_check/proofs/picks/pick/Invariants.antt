use Rattle.diag_check.proofs.Vocabulary.{◌≡◌, length, AreOfSide}
use Rattle.diag_check.proofs.picks.pick.Given as goal

abbrev pub invariant-picks : goal.invariant-picks
invariant-picks l = record {
  len : length l.picked.items ≡ l.i;
  are : AreOfSide l.shape l.side l.node.0 l.picked.items;
}
