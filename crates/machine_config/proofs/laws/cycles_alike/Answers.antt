use Rattle.machine_config.proofs.Distance.{cycles_alike}
use Rattle.machine_config.proofs.laws.cycles_alike.Goals as goal

pub returns : goal.returns
returns c = cycles_alike
