use Rattle.diag_check.proofs.Vocabulary.{◌≡◌, ◌-◌, ◌+◌, subst, arith, nodes_of, Rises}
use Rattle.diag_check.proofs.Involving.{rises_first}
use Rattle.diag_check.proofs.marks.mark_above.Goals as goal

pub nodes-init : goal.nodes-init
nodes-init c =
    let e : nodes_of c.args.shape.now ≡ c.nodes-count.result - 0 = (let a = c.nodes-count.ensures.nodes in omega (arith, a)) in
    subst (Rises c.args.shape.now c.args.nodes.now c.args.nodes.now) e (rises_first c.args.shape.now c.args.nodes.now c.requires)

pub nodes-preserved : goal.nodes-preserved
nodes-preserved c =
    let from : c.nodes-count.result - c.nodes.k ≡ c.nodes-count.result - 1 - c.nodes.k + 1 = omega arith in
    let to : c.nodes-count.result - 1 - c.nodes.k ≡ c.nodes-count.result - (c.nodes.k + 1) = omega arith in
    subst (Rises c.args.shape.now c.args.nodes.now c.mark_parent.new.nodes) to
    (c.mark_parent.ensures.rises c.args.nodes.now (subst (Rises c.args.shape.now c.args.nodes.now c.nodes.nodes) from c.nodes.invariant))

pub returns : goal.returns
returns c =
    let e : c.nodes-count.result - c.nodes.k ≡ 0 = omega arith in
    subst (Rises c.args.shape.now c.args.nodes.now c.nodes.nodes) e c.nodes.invariant
