use Rattle.diag_growth.proofs.Vocabulary.{get_or, refl, arith}
use Rattle.diag_growth.proofs.Testing.{table_at, tested_all, tested_first, tested_next}
use Rattle.diag_growth.proofs.tables.need_no_tests.Goals as goal

pub tables-init : goal.tables-init
tables-init c = λ told. tested_first

pub tables-preserved : goal.tables-preserved
tables-preserved c = λ told. tested_next (table_at c.args.tables.now c.tables.i (get_or c.args.tables.now c.tables.i (record { 0 = 0 })) (record { 0 = 0 }) c.tables-test.true refl) (c.tables.invariant told)
    (c.needs_no_test.ensures c.if-not-needs_no_test.false told)

pub returns : goal.returns
returns c = λ yes told. tested_all (c.tables.invariant told) (let t = c.tables-test.false in omega (arith, t))
