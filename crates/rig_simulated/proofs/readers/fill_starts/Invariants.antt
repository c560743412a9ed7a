use Rattle.rig_simulated.proofs.Vocabulary.{◌≡◌, length, AreStarts}
use Rattle.rig_simulated.proofs.readers.fill_starts.Given as goal

abbrev pub invariant-gates : goal.invariant-gates
invariant-gates l = record {
  len : length l.starts.items ≡ l.k;
  starts : AreStarts l.gates l.k l.list l.starts.items;
}
