use Rattle.map_eval.proofs.StartLemmas.{address_first}
use Rattle.map_eval.proofs.refreshing.address_of.Goals as goal

pub pins-init : goal.pins-init
pins-init c = address_first c.args.ins.now c.args.inputs.now c.args.values.now
