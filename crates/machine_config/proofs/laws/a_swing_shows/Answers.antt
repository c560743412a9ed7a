use Rattle.machine_config.proofs.Readings.{swing_clears}
use Rattle.machine_config.proofs.laws.a_swing_shows.Goals as goal

pub returns : goal.returns
returns c = λ f g first later r q k w run h n j. swing_clears f g k w run h n j
