use Rattle.machine_shape.proofs.PartNames.{has_part_names}
use Rattle.machine_shape.proofs.laws.names_follow_the_tree.Goals as goal

pub returns : goal.returns
returns c = has_part_names
