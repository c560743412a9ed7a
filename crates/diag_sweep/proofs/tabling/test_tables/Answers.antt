use Rattle.std.proofs.Common.{ap}
use Rattle.diag_sweep.proofs.Tabled.{table_on, tested_on}
use Rattle.diag_sweep.proofs.tabling.test_tables.Goals as goal

pub nodes-preserved : goal.nodes-preserved
nodes-preserved g c = tested_on c.nodes.invariant (ap (λ v. v.items) c.nodes.invariant.tables) c.test_chip.ensures.goes c.test_chip.ensures.tables c.test_chip.ensures.advances c.in_ok-test_chip.ensures.forest

pub returns-in_err-test_chip-clause-goes : goal.returns-in_err-test_chip-clause-goes
returns-in_err-test_chip-clause-goes g c = let old = c.nodes.invariant in table_on (ap (λ v. v.items) old.tables) old.goes c.test_chip.ensures.advances c.test_chip.ensures.goes
