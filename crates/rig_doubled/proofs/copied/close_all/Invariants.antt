use Rattle.rig_doubled.proofs.Vocabulary.{◌≡◌, take, with_crosses}
use Rattle.rig_doubled.proofs.copied.close_all.Given as goal

abbrev pub invariant-closed : goal.invariant-closed
invariant-closed l = l.copy.config ≡ with_crosses l.fn.copy.config (take l.k l.closed)
