use Rattle.map_eval.specs.Wires.{AreWires}
use Rattle.map_eval.proofs.wires.wires_of.Given as goal

abbrev pub invariant-tables : goal.invariant-tables
invariant-tables l = AreWires l.network l.j l.wires.items
