use Rattle.machine_history.proofs.Unique.{CyclesOver-split}
use Rattle.machine_history.proofs.over.runs_over_begin_as_runs.Goals as goal

pub returns : goal.returns
returns c = λ h g drives more reads p. let split = CyclesOver-split g h drives more p.cycles in record { outputs = split.0; cycles = split.1 }
