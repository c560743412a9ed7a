use Rattle.diag_evidence.proofs.Vocabulary.{◌≡◌}
use Rattle.diag_evidence.proofs.forest_config.close_from.Given as goal

abbrev pub invariant-crosses : goal.invariant-crosses
invariant-crosses l = l.config.config.shape ≡ l.fn.config.config.shape
