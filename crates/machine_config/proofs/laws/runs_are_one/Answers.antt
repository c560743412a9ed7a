use Rattle.machine_config.specs.Faulty.{circuit_of}
use Rattle.machine_config.proofs.{Finite.run_exists, Runs.Runs-unique, Runs.Cycles-length, Runs.Cycles-pins}
use Rattle.machine_config.proofs.laws.runs_are_one.Goals as goal

pub returns : goal.returns
returns c = record {
  exists = run_exists;
  unique = λ f g drives reads others p q. Runs-unique (circuit_of f g) p q;
  answers = λ f g drives reads p. Cycles-length (circuit_of f g) p.cycles;
  pins = λ f g drives reads p. Cycles-pins (circuit_of f g) p.cycles;
}
