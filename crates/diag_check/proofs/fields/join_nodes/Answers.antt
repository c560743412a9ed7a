use Rattle.std.proofs.Common.{◌<◌, ◌*◌, length, sym, ◌∙◌, arith}
use Rattle.diag_check.proofs.Fielding.{field_next, field_pass}
use Rattle.diag_check.proofs.fields.join_nodes.Goals as goal

pub nodes-preserved-then-not-has : goal.nodes-preserved-then-not-has
nodes-preserved-then-not-has c =
    let most = c.args.frame.now.most in
    let within : c.nodes.n < length c.args.nodes.now = (let len = c.requires.nodes in let all = c.nodes-n-end.ensures.nodes in omega (arith, len, all)) in
    field_pass (2 * most) (2 * most * most) c.nodes.n c.nodes.invariant within (sym c.has.ensures ∙ c.if-not-has.true)

pub nodes-preserved : goal.nodes-preserved
nodes-preserved c =
    let most = c.args.frame.now.most in
    let within : c.nodes.n < length c.args.nodes.now = (let len = c.requires.nodes in let all = c.nodes-n-end.ensures.nodes in omega (arith, len, all)) in
    field_next (2 * most) (2 * most * most) c.nodes.n c.nodes.invariant within (sym c.has.ensures ∙ c.if-not-has.false) c.join_node.ensures.wires c.join_node.ensures.crosses
