use Rattle.machine_config.specs.Faulty.{circuit_of}
use Rattle.machine_config.proofs.Runs.{Cycles-push, Cycles-split}
use Rattle.machine_config.proofs.laws.runs_go_on.Goals as goal

pub returns : goal.returns
returns c = record {
  cycles = λ k before mid after drives reads drive read p s. Cycles-push k p s;
  before = λ f g drives more reads p. let split = Cycles-split (circuit_of f g) drives more p.cycles in record { outputs = split.0; cycles = split.1 };
}
