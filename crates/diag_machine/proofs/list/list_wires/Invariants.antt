use Rattle.diag_machine.specs.Listing.{IsListing}
use Rattle.diag_machine.proofs.list.list_wires.Given as goal

abbrev pub invariant-wires : goal.invariant-wires
invariant-wires l = IsListing l.facts l.known.steps l.list l.w 0 0
