use Rattle.machine_history.proofs.{Existing.run_over_exists, Unique.run_over_unique, Unique.CyclesOver-length, Unique.CyclesOver-pins}
use Rattle.machine_history.proofs.over.runs_over_are_one.Goals as goal

pub returns : goal.returns
returns c = record {
  exists = λ h g are is drives. run_over_exists g is h are drives;
  unique = λ h g drives reads others p q. run_over_unique g h p q;
  answers = λ h g drives reads p. CyclesOver-length g h p.cycles;
  pins = λ h g drives reads p. CyclesOver-pins g h p.cycles;
}
