use Rattle.machine_shape.proofs.Vocabulary.{◌<◌, ◌∙◌, Some, sym, ap, subst, arith, levels_of, node_at, nodes_of, parent_of, IsSpot, above}
use Rattle.machine_shape.proofs.{Parents.parent_of-root, Whereabouts.parent_leads}
use Rattle.machine_shape.proofs.Shape.parent.Goals as goal

pub node_number-requires : goal.node_number-requires
node_number-requires c =
    let z : 0 < c.args.n.0 = omega (arith, c.if-n-eq0.false) in
    subst (IsSpot (levels_of c.args.self.now)) (sym (c.above_of.ensures ∙ ap above c.node_way-way.ensures)) (parent_leads c.args.self.now c.args.n.0 z c.requires).2.spot

pub returns-then-n-eq0-clause-none : goal.returns-then-n-eq0-clause-none
returns-then-n-eq0-clause-none c = (ap (parent_of c.args.self.now) c.if-n-eq0.true ∙ parent_of-root c.args.self.now, c.if-n-eq0.true)

pub returns-else-n-eq0-clause-some : goal.returns-else-n-eq0-clause-some
returns-else-n-eq0-clause-some c =
    let z : 0 < c.args.n.0 = omega (arith, c.if-n-eq0.false) in
    let p = parent_leads c.args.self.now c.args.n.0 z c.requires in
    let e = c.node_number.ensures ∙ ap (node_at c.args.self.now) (c.above_of.ensures ∙ ap above c.node_way-way.ensures) ∙ sym p.2.number in
    (p.1 ∙ ap Some (sym e), subst (λ k. k < nodes_of c.args.self.now) (sym e) p.2.within)
