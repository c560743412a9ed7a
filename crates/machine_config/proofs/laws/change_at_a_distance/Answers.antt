use Rattle.machine_config.proofs.Distance.{change_at_a_distance}
use Rattle.machine_config.proofs.laws.change_at_a_distance.Goals as goal

pub returns : goal.returns
returns c = change_at_a_distance
