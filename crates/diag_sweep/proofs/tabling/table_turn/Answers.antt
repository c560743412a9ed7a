use Rattle.diag_sweep.proofs.Holding.{held_more}
use Rattle.diag_sweep.proofs.tabling.table_turn.Goals as goal

pub returns-clause-forest : goal.returns-clause-forest
returns-clause-forest g c = held_more c.table_load.ensures.advances.more c.in-Ok-hold.ensures
