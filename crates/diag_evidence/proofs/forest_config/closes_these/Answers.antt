use Rattle.diag_evidence.proofs.Vocabulary.{◌∙◌, List, ap, Cross, cross_numbers, is_closed, among}
use Rattle.diag_evidence.proofs.Closing.{listed_among}
use Rattle.diag_evidence.proofs.forest_config.closes_these.Goals as goal

pub returns-clause-closed : goal.returns-clause-closed
returns-clause-closed c = λ yes x. listed_among c.closed.result.now x (is_closed c.args.config.now.config x) (c.closed.ensures x) ∙ ap (λ (xs : List Cross). among (cross_numbers xs) x) (c.are_same.ensures.yes yes)
