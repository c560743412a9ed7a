use Rattle.diag_check.proofs.Vocabulary.{◌≡◌, ◌<◌, length, subst, arith, Adds, IsAmongFirst, side_wire, width_of}
use Rattle.diag_check.proofs.Adding.{first_none, first_next}
use Rattle.diag_check.proofs.near.mark_side.Goals as goal

pub positions-init : goal.positions-init
positions-init c = first_none (side_wire c.args.shape.now c.args.side c.args.node.0)

pub positions-preserved : goal.positions-preserved
positions-preserved c =
    let w = c.wire_at.result.0 in
    let a = c.positions.invariant in
    let within : w < length c.positions.wires = (let b = c.wire_at.ensures.within in let e = a.len in let d = c.requires.wires in omega (arith, b, e, d)) in
    rw c.insert.ensures (first_next (side_wire c.args.shape.now c.args.side c.args.node.0) c.positions.k w a c.wire_at.ensures.wire within)

pub returns : goal.returns
returns c =
    let e : c.positions.k ≡ width_of c.args.shape.now c.args.side c.args.node.0 = (let a = c.width-k-end.ensures in omega (arith, a)) in
    subst (λ n. Adds (IsAmongFirst (side_wire c.args.shape.now c.args.side c.args.node.0) n) c.args.wires.now c.positions.wires) e c.positions.invariant
