use Rattle.rig.proofs.Narrowing.{narrows_load}
use Rattle.rig_doubled.proofs.pairs.load_both.Goals as goal

pub returns-in-Ok-clause-first_narrows : goal.returns-in-Ok-clause-first_narrows
returns-in-Ok-clause-first_narrows g c = narrows_load c.load.ensures.machine c.load.ensures.logged

pub returns-in-Ok-clause-second_narrows : goal.returns-in-Ok-clause-second_narrows
returns-in-Ok-clause-second_narrows g c = narrows_load c.load-in-Ok.ensures.machine c.load-in-Ok.ensures.logged

pub returns-in-Err-clause-first_narrows : goal.returns-in-Err-clause-first_narrows
returns-in-Err-clause-first_narrows g c = narrows_load c.load.ensures.machine c.load.ensures.logged
