use Rattle.std.proofs.Common.{Some}
use Rattle.diag_growth.proofs.Vocabulary.{arith}
use Rattle.diag_growth.proofs.{Testing.only_none}
use Rattle.diag_growth.proofs.tables.test_tables.Goals as goal

pub returns-then-need_no_tests-clause-tables_each : goal.returns-then-need_no_tests-clause-tables_each
returns-then-need_no_tests-clause-tables_each g c = λ f e. c.need_no_tests.ensures c.if-need_no_tests.true (Some f)

pub returns-then-need_no_tests-clause-only : goal.returns-then-need_no_tests-clause-only
returns-then-need_no_tests-clause-only g c = only_none

pub returns-then-need_no_tests-clause-loads : goal.returns-then-need_no_tests-clause-loads
returns-then-need_no_tests-clause-loads g c = omega arith
