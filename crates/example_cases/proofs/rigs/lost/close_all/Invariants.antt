use Rattle.std.proofs.Common.{◌≡◌}
use Rattle.example_cases.proofs.rigs.lost.close_all.Given as goal

abbrev pub invariant-crosses : goal.invariant-crosses
invariant-crosses l = (l.config.config.shape ≡ l.initial.config.config.shape)
