use Rattle.std.proofs.Common.{◌<◌, ◌*◌, length, sym, ◌∙◌, arith}
use Rattle.diag_check.proofs.Fielding.{field_next}
use Rattle.diag_check.proofs.fields.hang_used.Goals as goal

pub wires-preserved : goal.wires-preserved
wires-preserved c =
    let within : c.wires.w < length c.args.used.now = (let len = c.requires.used in let all = c.wires-w-end.ensures.wires in omega (arith, len, all)) in
    field_next 1 (2 * c.args.frame.now.most) c.wires.w c.wires.invariant within (sym c.has.ensures ∙ c.if-not-has.false) c.hang_wire.ensures.wires c.hang_wire.ensures.crosses
