use Rattle.diag_known.proofs.Passing.{known_passes}
use Rattle.diag_known.proofs.toggles.toggle_known.Goals as goal

pub returns-in-Ok-toggle-clause-kept_each : goal.returns-in-Ok-toggle-clause-kept_each
returns-in-Ok-toggle-clause-kept_each g c = λ f e. known_passes c.requires.known c.in-Ok.ensures c.requires.at (c.in-Ok-toggle.ensures.passes_each f e) c.toggle.ensures.advances.more c.in-Ok-toggle.ensures.kept
