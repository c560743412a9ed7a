use Rattle.rig_simulated.proofs.Vocabulary.{◌≡◌, length, take, AreCounted}
use Rattle.rig_simulated.proofs.pulls.count_pulls.Given as goal

abbrev pub invariant-gates : goal.invariant-gates
invariant-gates l = record {
  len : length l.low ≡ length l.fn.low;
  pulls : length l.pulls.items ≡ length l.fn.pulls.items;
  counted : AreCounted (take l.i l.gates) l.pulls.items l.low;
}
