use Rattle.std.proofs.Common.{◌∙◌, ap}
use Rattle.diag_sweep.proofs.Tabled.{table_on, tested_on}
use Rattle.diag_sweep.proofs.tabling.test_chip.Goals as goal

pub loads-preserved : goal.loads-preserved
loads-preserved g c = tested_on c.loads.invariant (ap (λ v. v.items) c.loads.invariant.tables) c.table_turn.ensures.goes c.table_turn.ensures.tables c.table_turn.ensures.advances c.in_ok-table_turn.ensures.forest

pub returns-in_err-table_turn-clause-goes : goal.returns-in_err-table_turn-clause-goes
returns-in_err-table_turn-clause-goes g c = let old = c.loads.invariant in table_on (ap (λ v. v.items) old.tables) old.goes c.table_turn.ensures.advances c.table_turn.ensures.goes

pub returns-then-not-branch-clause-goes : goal.returns-then-not-branch-clause-goes
returns-then-not-branch-clause-goes g c = let old = c.loads.invariant in table_on (ap (λ v. v.items) old.tables) old.goes c.table_turn.ensures.advances c.table_turn.ensures.goes

pub returns-then-not-branch-clause-tables : goal.returns-then-not-branch-clause-tables
returns-then-not-branch-clause-tables g c = c.table_turn.ensures.tables ∙ c.loads.invariant.tables
