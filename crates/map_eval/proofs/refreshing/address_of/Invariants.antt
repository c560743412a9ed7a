use Rattle.map_eval.specs.Starting.{IsAddress}
use Rattle.map_eval.proofs.refreshing.address_of.Given as goal

abbrev pub invariant-pins : goal.invariant-pins
invariant-pins l = IsAddress l.ins l.inputs l.values l.pin l.address
