use Rattle.machine_shape.specs.Shape.{wires_of, pin_wire}
use Rattle.diag_published.proofs.Listing.{AreFirstOf}
use Rattle.diag_published.proofs.lists.pins_in.Given as goal

abbrev pub invariant-pins : goal.invariant-pins
invariant-pins l = AreFirstOf (pin_wire l.shape) (wires_of l.shape) l.k l.pins.items
