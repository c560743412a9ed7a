use Rattle.diag_sweep.proofs.{Going.goes_settled, Going.goes_then, Holding.held_more, Holding.held_same}
use Rattle.diag_sweep.proofs.leading.lead_turn.Goals as goal

pub returns-in_default-note_walks-clause-goes : goal.returns-in_default-note_walks-clause-goes
returns-in_default-note_walks-clause-goes g c = let tested = c.lead_load.ensures.goes in goes_then tested (goes_settled tested.hand c.settle_walks.ensures)

pub returns-clause-goes : goal.returns-clause-goes
returns-clause-goes g c = let tested = c.lead_load.ensures.goes in goes_then tested (goes_settled tested.hand c.settle_walks.ensures)

pub returns-then-loads-before-clause-goes : goal.returns-then-loads-before-clause-goes
returns-then-loads-before-clause-goes g c = let tested = c.lead_load.ensures.goes in goes_then tested (goes_settled tested.hand c.settle_walks.ensures)

pub returns-clause-forest : goal.returns-clause-forest
returns-clause-forest g c = held_same c.forget_where.ensures (held_more c.lead_load.ensures.advances.more c.plant_ends-planted.ensures)

pub returns-then-loads-before-clause-forest : goal.returns-then-loads-before-clause-forest
returns-then-loads-before-clause-forest g c = held_same c.forget_where.ensures (held_more c.lead_load.ensures.advances.more c.plant_ends-planted.ensures)
