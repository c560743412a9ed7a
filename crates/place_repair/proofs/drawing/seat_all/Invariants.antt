use Rattle.place_repair.proofs.Vocabulary.{AreSeated, IsTable, no_table, IsOfFirst}
use Rattle.place_repair.proofs.drawing.seat_all.Given as goal

abbrev pub invariant-loop-k : goal.invariant-loop-k
invariant-loop-k l = AreSeated l.old.config l.plan (IsOfFirst IsTable no_table l.tables l.k) l.fn.config.config l.config.config
