use Rattle.diag_published.proofs.Vocabulary.{◌<◌, sym, subst, Shape, wires_of, LeadsTo-end}
use Rattle.diag_published.proofs.crossbar.test_crossbar.Goals as goal

pub node_of-node-requires : goal.node_of-node-requires
node_of-node-requires g c = subst (λ (m : Shape). c.end.result.0 < wires_of m) (sym c.shape.ensures)
    (subst (λ w. w < wires_of c.args.facts.now.shape) (sym c.end.ensures) (c.requires.trunk.left_route.route.wires c.args.trunk.left.end (LeadsTo-end c.requires.trunk.left_route.route.leads)))
