use Rattle.std.proofs.Common.{◌<◌, sym, subst}
use Rattle.diag_check.proofs.Fielding.{one_wire}
use Rattle.diag_check.proofs.fields.hang.Goals as goal

pub returns-clause-wires : goal.returns-clause-wires
returns-clause-wires c = rw c.insert.ensures (one_wire c.args.wire.0 (subst (λ n. c.args.wire.0 < n) (sym c.requires.field.wires) c.requires.wire))
