use Rattle.place_pair.proofs.Vocabulary.{take, Closes, IsHeldAmong}
use Rattle.place_pair.proofs.splitting.close_held.Given as goal

abbrev pub invariant-loop-cross : goal.invariant-loop-cross
invariant-loop-cross l = Closes (IsHeldAmong l.fn.config.config.shape l.site l.network l.owners (take l.cross-index l.closed)) l.cross-index l.fn.config.config l.config.config
