use Rattle.diag_sweep.proofs.Leaving.{without_all, without_first, without_pass, without_put}
use Rattle.diag_sweep.proofs.without.subtract.Goals as goal
