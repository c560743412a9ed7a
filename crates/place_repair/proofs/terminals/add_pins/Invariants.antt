use Rattle.place_repair.specs.Making.{IsAdded, IsFirstPinTerminal}
use Rattle.place_repair.proofs.terminals.add_pins.Given as goal

abbrev pub invariant-loop-i : goal.invariant-loop-i
invariant-loop-i l = IsAdded (IsFirstPinTerminal l.config.config l.plan l.pins l.i) l.fn.lists l.lists
