use Rattle.place_repair.specs.Making.{IsUnusedTo}
use Rattle.place_repair.proofs.seats.is_unused.Given as goal

abbrev pub invariant-loop-j : goal.invariant-loop-j
invariant-loop-j l = IsUnusedTo l.used l.shape l.table.0 l.j
