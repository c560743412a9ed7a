use Rattle.diag_check.proofs.Vocabulary.{◌≡◌, ◌<◌, length, subst, sym, ◌∙◌, arith, wires_of, Adds, IsNodeAmong}
use Rattle.diag_check.proofs.Involving.{nodes_none, nodes_next, nodes_pass}
use Rattle.diag_check.proofs.marks.mark_nodes.Goals as goal

pub wires-init : goal.wires-init
wires-init c = nodes_none c.args.shape.now c.args.used.now

pub wires-preserved : goal.wires-preserved
wires-preserved c =
    let n = c.node_of.result.0 in
    let a = c.wires.invariant in
    let within : n < length c.wires.nodes = (let b = c.node_of.ensures.within in let e = a.len in let d = c.requires.nodes in omega (arith, b, e, d)) in
    rw c.insert.ensures (nodes_next c.args.shape.now c.args.used.now c.wires.w n a (sym c.has.ensures ∙ c.if-not-has.false) c.node_of.ensures.node within)

pub wires-preserved-then-not-has : goal.wires-preserved-then-not-has
wires-preserved-then-not-has c = nodes_pass c.args.shape.now c.args.used.now c.wires.w c.wires.invariant (sym c.has.ensures ∙ c.if-not-has.true)

pub returns : goal.returns
returns c =
    let e : c.wires.w ≡ wires_of c.args.shape.now = (let a = c.wires-w-end.ensures.wires in omega (arith, a)) in
    subst (λ n. Adds (IsNodeAmong c.args.shape.now c.args.used.now n) c.args.nodes.now c.wires.nodes) e c.wires.invariant
