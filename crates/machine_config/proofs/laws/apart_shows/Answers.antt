use Rattle.machine_config.proofs.Readings.{apart_separates}
use Rattle.machine_config.proofs.laws.apart_shows.Goals as goal

pub returns : goal.returns
returns c = λ f g drive r k l w u run hk hl n jk jl. apart_separates f g k l w u run hk hl n jk jl
