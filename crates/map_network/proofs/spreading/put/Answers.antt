use Rattle.map_network.specs.Spreading.{begins}
use Rattle.map_network.proofs.SpreadLemmas.{one_spread}
use Rattle.map_network.proofs.spreading.put.Goals as goal

pub returns-in-Some : goal.returns-in-Some
returns-in-Some c = one_spread c.args.tables.now.items c.deref.result.now c.args.table c.args.reader c.in-Some.joined c.deref.ensures.value c.in-Some.ensures

pub returns-in_default : goal.returns-in_default
returns-in_default c = begins
