use Rattle.rig.proofs.{Narrowing.narrows_cycles, Narrowing.tells_cycles, Cycling.cycles-made}
use Rattle.rig.proofs.boxed.cycles.Goals as goal

pub returns-clause-made : goal.returns-clause-made
returns-clause-made g c = cycles-made _ _ c.args.drives.now c.cycles_raw.new.reads c.cycles_raw.result c.cycles_raw.ensures.cycles c.cycles_raw.ensures.refused

pub returns-clause-narrows : goal.returns-clause-narrows
returns-clause-narrows g c = narrows_cycles c.args.drives.now c.cycles_raw.new.reads c.cycles_raw.result c.cycles_raw.ensures.machine c.cycles_raw.ensures.cycles c.cycles_raw.ensures.refused

pub returns-clause-tells : goal.returns-clause-tells
returns-clause-tells g c = tells_cycles c.args.drives.now c.cycles_raw.new.reads _ _ c.cycles_raw.result c.cycles_raw.ensures.machine c.cycles_raw.ensures.cycles c.cycles_raw.ensures.refused
