use Rattle.rig.proofs.{Narrowing.narrows_load, Narrowing.tells_load, Cycling.load-made}
use Rattle.rig.proofs.boxed.load.Goals as goal

pub returns-clause-made : goal.returns-clause-made
returns-clause-made g c = load-made _ _ c.args.config.now.config c.args.room c.load_raw.result c.load_raw.ensures.logged c.load_raw.ensures.begins c.load_raw.ensures.ended

pub returns-clause-narrows : goal.returns-clause-narrows
returns-clause-narrows g c = narrows_load c.load_raw.ensures.machine c.load_raw.ensures.logged

pub returns-clause-tells : goal.returns-clause-tells
returns-clause-tells g c = tells_load c.args.config.now.config c.args.room _ _ c.load_raw.result c.load_raw.ensures.machine c.load_raw.ensures.logged c.load_raw.ensures.begins c.load_raw.ensures.ended
