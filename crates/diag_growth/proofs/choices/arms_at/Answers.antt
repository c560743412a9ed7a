use Rattle.diag_growth.proofs.Choosing.{no_arm_at}
use Rattle.diag_growth.proofs.choices.arms_at.Goals as goal

pub returns-in_default-clause-none : goal.returns-in_default-clause-none
returns-in_default-clause-none c = no_arm_at (c.the_numbering_is_sound.ensures.tree c.args.facts.now.shape) c.requires.port c.in_default.ensures.none

pub returns-clause-arms : goal.returns-clause-arms
returns-clause-arms c = record { first = c.in-Some.ensures.arm; second = c.find_arm-second.ensures.arm; none = c.find_arm-second.ensures.none }
