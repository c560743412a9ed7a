use Rattle.place_repair.proofs.Using.{not_true_and}
use Rattle.place_repair.proofs.rest.list_wire_if.Goals as goal

pub returns-then-not-wanted-clause-listed : goal.returns-then-not-wanted-clause-listed
returns-then-not-wanted-clause-listed c = λ t. absurd (not_true_and c.if-not-wanted.true t)

pub returns-clause-kept : goal.returns-clause-kept
returns-clause-kept c = λ f. absurd (not_true_and f c.if-not-wanted.false)
