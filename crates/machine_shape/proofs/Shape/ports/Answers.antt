use Rattle.machine_shape.proofs.Vocabulary.{sym, ◌∙◌, ap, own_ports_of}
use Rattle.machine_shape.proofs.Totals.{root_ports, other_ports}
use Rattle.machine_shape.proofs.Shape.ports.Goals as goal

pub returns-then-n-eq0 : goal.returns-then-n-eq0
returns-then-n-eq0 c = sym (ap (own_ports_of c.args.self.now) c.if-n-eq0.true ∙ root_ports c.args.self.now)

pub returns-else-n-eq0 : goal.returns-else-n-eq0
returns-else-n-eq0 c = c.node_bar.ensures.ports ∙ sym (other_ports c.args.self.now c.args.n.0 c.if-n-eq0.false)
