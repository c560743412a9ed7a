use Rattle.place_repair.proofs.Using.{not_true_and}
use Rattle.place_repair.proofs.rest.list_cross_unless.Goals as goal

pub returns-then-free-clause-listed : goal.returns-then-free-clause-listed
returns-then-free-clause-listed c = λ f. absurd (not_true_and f c.if-free.true)

pub returns-clause-kept : goal.returns-clause-kept
returns-clause-kept c = λ t. absurd (not_true_and c.if-free.false t)
