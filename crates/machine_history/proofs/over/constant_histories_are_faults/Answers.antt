use Rattle.machine_history.proofs.Constant.{run_of, run_in}
use Rattle.machine_history.proofs.over.constant_histories_are_faults.Goals as goal

pub returns : goal.returns
returns c = λ f h g drives reads constant. (run_of f g h constant drives reads, run_in f g h constant drives reads)
