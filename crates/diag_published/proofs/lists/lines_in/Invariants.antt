use Rattle.machine_shape.specs.Shape.{wires_of, line_at}
use Rattle.diag_published.proofs.Listing.{AreFirstOf}
use Rattle.diag_published.proofs.lists.lines_in.Given as goal

abbrev pub invariant-lines : goal.invariant-lines
invariant-lines l = AreFirstOf (line_at l.shape l.node.0) (wires_of l.shape) l.k l.lines.items
