use Rattle.diag_check.specs.Marks.{Adds, IsPinAmong}
use Rattle.diag_check.proofs.used.mark_pins.Given as goal

abbrev pub invariant-pins : goal.invariant-pins
invariant-pins l = Adds (IsPinAmong l.shape l.pins l.i) l.initial.used l.used
