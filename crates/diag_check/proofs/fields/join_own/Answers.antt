use Rattle.diag_check.proofs.Fielding.{either_wires}
use Rattle.diag_check.proofs.fields.join_own.Goals as goal

pub returns-clause-wires : goal.returns-clause-wires
returns-clause-wires c = either_wires c.args.here.now c.add_wires.ensures c.add_wires-2.ensures
