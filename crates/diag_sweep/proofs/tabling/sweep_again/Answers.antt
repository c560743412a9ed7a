use Rattle.diag_sweep.proofs.Going.{goes_on, goes_wider}
use Rattle.diag_sweep.proofs.tabling.sweep_again.Goals as goal

pub returns-in_err-sweep_chosen-clause-goes : goal.returns-in_err-sweep_chosen-clause-goes
returns-in_err-sweep_chosen-clause-goes g c = goes_wider c.args.table_sweep.now.tables.items c.sweep_chosen.ensures.goes

pub returns-clause-goes : goal.returns-clause-goes
returns-clause-goes g c = goes_on (goes_wider c.args.table_sweep.now.tables.items c.sweep_chosen.ensures.goes) c.test_tables.ensures.advances c.test_tables.ensures.goes
