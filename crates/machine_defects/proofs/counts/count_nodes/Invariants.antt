use Rattle.machine_defects.specs.Kept.{AreRecounted}
use Rattle.machine_defects.proofs.counts.count_nodes.Given as goal

abbrev pub invariant-nodes : goal.invariant-nodes
invariant-nodes l = AreRecounted l.shape l.wires l.shut l.n l.open_lines l.free_ports_by
