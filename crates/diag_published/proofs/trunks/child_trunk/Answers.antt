use Rattle.diag_published.proofs.Vocabulary.{◌<◌, All, subst, sym, Shape, Wire, nodes_of, wires_of, Trunk, IsTrunkOf, wire_numbers}
use Rattle.diag_published.proofs.{Laid.if_some, Laid.if_none, Trunking.child_ports, Trunking.port_end, Trunking.unserved_child}
use Rattle.diag_published.proofs.trunks.child_trunk.Goals as goal

pub ports_in-requires : goal.ports_in-requires
ports_in-requires c = subst (λ (m : Shape). c.args.node.0 < nodes_of m) (sym c.shape-shape.ensures) ((c.the_laws_hold.ensures c.args.facts.now.shape).parents.within c.args.node.0 c.args.parent.now.node c.requires.child)

pub trunk_of-requires-clause-within : goal.trunk_of-requires-clause-within
trunk_of-requires-clause-within c = rw c.deref.ensures.value (subst (λ (m : Shape). All (λ (w : Wire). w.0 < wires_of m) c.in-Ok.ports.items) c.shape-shape.ensures c.in-Ok.ensures.within)

pub returns-in-Ok-trunk_of-clause-held : goal.returns-in-Ok-trunk_of-clause-held
returns-in-Ok-trunk_of-clause-held c =
    let ports = child_ports c.args.facts.now.shape (c.the_laws_hold.ensures c.args.facts.now.shape) c.args.node.0 (wire_numbers c.in-Ok.ports.items) c.requires.child c.shape-shape.ensures c.in-Ok.ensures.ports in
    if_some _ (rw (c.in-Ok-trunk_of.is, c.deref.ensures.value) at c.trunk_of.ensures.trunk) (λ (t : Trunk) (trunk : IsTrunkOf c.args.facts.now c.args.known.now (wire_numbers c.in-Ok.ports.items) t.left t.right). trunk.held c.args.node.0 (port_end c.args.facts.now.shape c.args.node.0 (wire_numbers c.in-Ok.ports.items) ports))

pub returns-in-Ok-trunk_of-clause-none : goal.returns-in-Ok-trunk_of-clause-none
returns-in-Ok-trunk_of-clause-none c =
    let laws = c.the_laws_hold.ensures c.args.facts.now.shape in
    let ports = child_ports c.args.facts.now.shape laws c.args.node.0 (wire_numbers c.in-Ok.ports.items) c.requires.child c.shape-shape.ensures c.in-Ok.ensures.ports in
    if_none _ (rw (c.in-Ok-trunk_of.is, c.deref.ensures.value) at c.trunk_of.ensures.none) (λ one. unserved_child c.args.facts.now c.args.known.now c.args.parent.now c.args.node.0 (wire_numbers c.in-Ok.ports.items) laws c.requires.child c.requires.held ports one)
