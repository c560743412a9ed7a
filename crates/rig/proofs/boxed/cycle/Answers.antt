use Rattle.rig.proofs.{Narrowing.narrows_cycle, Narrowing.tells_cycle, Cycling.cycle-made}
use Rattle.rig.proofs.boxed.cycle.Goals as goal

pub returns-clause-made : goal.returns-clause-made
returns-clause-made g c = cycle-made _ _ c.args.drive.now c.cycle_raw.new.read c.cycle_raw.result c.cycle_raw.ensures.cycles c.cycle_raw.ensures.refused

pub returns-clause-narrows : goal.returns-clause-narrows
returns-clause-narrows g c = narrows_cycle c.args.drive.now c.cycle_raw.new.read c.cycle_raw.result c.cycle_raw.ensures.machine c.cycle_raw.ensures.cycles c.cycle_raw.ensures.refused

pub returns-clause-tells : goal.returns-clause-tells
returns-clause-tells g c = tells_cycle c.args.drive.now c.cycle_raw.new.read _ _ c.cycle_raw.result c.cycle_raw.ensures.machine c.cycle_raw.ensures.cycles c.cycle_raw.ensures.refused
