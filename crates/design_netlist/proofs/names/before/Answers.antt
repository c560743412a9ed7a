use Rattle.design_netlist.proofs.NameLemmas.{in_front, is_first}
use Rattle.design_netlist.proofs.names.before.Goals as goal

pub returns-then-before-place : goal.returns-then-before-place
returns-then-before-place c = in_front c.args.beginnings.now c.args.place c.index-beginnings-place.result c.requires c.if-before-place.true

pub returns-else-before-place : goal.returns-else-before-place
returns-else-before-place c = is_first c.args.beginnings.now c.args.place c.index-beginnings-place.result c.requires c.if-before-place.false
