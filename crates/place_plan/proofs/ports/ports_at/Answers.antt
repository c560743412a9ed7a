use Rattle.place_plan.proofs.Vocabulary.{◌≡◌, ◌≤◌, ap, ◌∙◌, subst, port_at, own_ports_of}
use Rattle.place_plan.proofs.{Crossings.ports_end, Sieves.tested_wire}
use Rattle.place_plan.proofs.ports.ports_at.Goals as goal

pub loop-k-preserved : goal.loop-k-preserved
loop-k-preserved c =
    let m = c.args.defects.now.shape in
    let wire : c.port-port.result.0 ≡ port_at m c.args.node c.loop-k.k = c.port-port.ensures.wire ∙ ap (λ z. port_at z c.args.node c.loop-k.k) c.shape-shape.ensures.shape in
    tested_wire (port_at m c.args.node) c.args.defects.now.list c.loop-k.k c.port-port.result.0 c.free_wire.result c.loop-k.ports c.push_if.new.numbers (λ j l. (c.ports_and_lines_ascend.ensures m).ports_ascend c.args.node j c.loop-k.k l) wire c.free_wire.ensures c.in_ok-push_if.ensures c.loop-k.invariant

pub returns : goal.returns
returns c =
    let m = c.args.defects.now.shape in
    let all : own_ports_of m c.args.node ≤ c.loop-k.k = subst (λ z. z ≤ c.loop-k.k) (c.ports-k-end.ensures ∙ ap (λ z. own_ports_of z c.args.node) c.shape-shape.ensures.shape) c.loop-k-test.false in
    let within : c.loop-k.k ≤ own_ports_of m c.args.node = subst (λ z. c.loop-k.k ≤ z) (c.ports-k-end.ensures ∙ ap (λ z. own_ports_of z c.args.node) c.shape-shape.ensures.shape) c.loop-k.auto.k-end in
    ports_end m (c.ports_and_lines_ascend.ensures m) c.args.defects.now.list c.args.node c.loop-k.ports c.loop-k.k all within c.requires c.loop-k.invariant
