use Rattle.machine_shape.proofs.Sites.{full_of, small_of}
use Rattle.machine_shape.proofs.places.levels_of.Goals as goal

pub returns-clause-full : goal.returns-clause-full
returns-clause-full c = full_of c.args.shape

pub returns-clause-small : goal.returns-clause-small
returns-clause-small c = small_of c.args.shape
