use Rattle.machine_bench.proofs.Vocabulary.{◌≡◌, turn_state, AfterTurns}
use Rattle.machine_bench.proofs.faults.bench_faults.Given as goal

abbrev pub invariant-turns : goal.invariant-turns
invariant-turns l = (l.set.shape ≡ l.shape) × (l.draws ≡ turn_state l.n l.turn) × AfterTurns l.shape l.n l.turn l.set.faults
