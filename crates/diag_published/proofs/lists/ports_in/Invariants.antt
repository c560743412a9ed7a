use Rattle.machine_shape.specs.Shape.{wires_of, port_at}
use Rattle.diag_published.proofs.Listing.{AreFirstOf}
use Rattle.diag_published.proofs.lists.ports_in.Given as goal

abbrev pub invariant-ports : goal.invariant-ports
invariant-ports l = AreFirstOf (port_at l.shape l.node.0) (wires_of l.shape) l.k l.ports.items
