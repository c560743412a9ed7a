use Rattle.diag_check.proofs.Vocabulary.{◌≡◌, subst, sym, ◌∙◌, arith, nodes_of, OfMarked, Adds, IsOfNode}
use Rattle.diag_check.proofs.Surrounding.{sides_none, sides_next, sides_pass}
use Rattle.diag_check.proofs.near.mark_sides.Goals as goal

pub nodes-init : goal.nodes-init
nodes-init c = sides_none c.args.shape.now c.args.nodes.now

pub nodes-preserved : goal.nodes-preserved
nodes-preserved c = sides_next c.args.shape.now c.args.nodes.now c.nodes.n c.nodes.invariant (sym c.has.ensures ∙ c.if-not-has.false) c.mark_node.ensures

pub nodes-preserved-then-not-has : goal.nodes-preserved-then-not-has
nodes-preserved-then-not-has c = sides_pass c.args.shape.now c.args.nodes.now c.nodes.n c.nodes.invariant (sym c.has.ensures ∙ c.if-not-has.true)

pub returns : goal.returns
returns c =
    let e : c.nodes.n ≡ nodes_of c.args.shape.now = (let a = c.nodes-n-end.ensures.nodes in omega (arith, a)) in
    subst (λ n. Adds (OfMarked c.args.nodes.now (IsOfNode c.args.shape.now) n) c.args.wires.now c.nodes.wires) e c.nodes.invariant
