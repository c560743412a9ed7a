use Rattle.machine_shape.specs.Shape.{wires_of, tap_at}
use Rattle.diag_published.proofs.Listing.{AreFirstOf}
use Rattle.diag_published.proofs.lists.taps_in.Given as goal

abbrev pub invariant-taps : goal.invariant-taps
invariant-taps l = AreFirstOf (tap_at l.shape l.node.0) (wires_of l.shape) l.k l.taps.items
