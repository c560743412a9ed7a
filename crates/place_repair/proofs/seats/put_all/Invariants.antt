use Rattle.place_repair.specs.Making.{IsPut}
use Rattle.place_repair.proofs.seats.put_all.Given as goal

abbrev pub invariant-loop-k : goal.invariant-loop-k
invariant-loop-k l = IsPut l.gone l.spare l.k l.fn.places l.places
