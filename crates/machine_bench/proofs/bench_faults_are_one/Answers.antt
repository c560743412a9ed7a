use Rattle.machine_bench.proofs.Turns.{turns_one}
use Rattle.machine_bench.proofs.bench_faults_are_one.Goals as goal

pub returns : goal.returns
returns c = λ m n f g. turns_one
