use Rattle.place_repair.proofs.Vocabulary.{IsBrokenBy, IsMarked}
use Rattle.place_repair.proofs.keeping.mark_pins.Given as goal

abbrev pub invariant-loop-j : goal.invariant-loop-j
invariant-loop-j l = IsMarked (IsBrokenBy l.config.config l.nets.lowest l.table.0 l.j) l.fn.marks l.marks
