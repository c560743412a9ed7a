use Rattle.map_eval.specs.Wires.{ArePushed}
use Rattle.map_eval.proofs.wires.push_wires.Given as goal

abbrev pub invariant-pins : goal.invariant-pins
invariant-pins l = ArePushed l.tables l.one l.ins l.pin l.fn.wires.items l.wires.items
