use Rattle.machine_config.proofs.Readings.{route_joined}
use Rattle.machine_config.proofs.laws.routes_are_joined.Goals as goal

pub returns : goal.returns
returns c = λ f g a e xs ws l p q. route_joined f g l p q
