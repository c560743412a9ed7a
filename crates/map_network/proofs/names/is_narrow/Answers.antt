use Rattle.std.proofs.Common.{sym}
use Rattle.map_network.proofs.NameLemmas.{narrow_few}
use Rattle.map_network.proofs.names.is_narrow.Goals as goal

pub returns-then-ins-le-TABLE_INPUTS : goal.returns-then-ins-le-TABLE_INPUTS
returns-then-ins-le-TABLE_INPUTS c = sym (narrow_few c.args.ins.now c.if-ins-le-TABLE_INPUTS.true)
