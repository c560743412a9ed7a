use Rattle.diag_growth.proofs.Vocabulary.{◌+◌, get_or, refl, sym, arith, advances_itself, advances_then, known_later}
use Rattle.diag_growth.proofs.{Fresh.takes_all, Fresh.takes_more, Explained.held}
use Rattle.diag_growth.proofs.Testing.{tested_first, tested_all, table_at, only_none, only_then, without_at, without_later, tested_on}
use Rattle.diag_growth.proofs.tables.test_each.Goals as goal

pub returns-in_default-clause-only : goal.returns-in_default-clause-only
returns-in_default-clause-only g c = only_none

pub tables-init : goal.tables-init
tables-init g c = record {
  advances = advances_itself _ c.args.facts.now;
  only = only_none;
  tested_each = λ f e. tested_first;
  without = without_at (sym c.in-Ok.ensures.hextant) c.in-Ok.ensures.stands;
  loads = omega arith;
}

pub test_seated-requires-clause-known : goal.test_seated-requires-clause-known
test_seated-requires-clause-known g c = known_later c.tables.invariant.advances.more c.requires.known

pub returns-in_err-test_seated-clause-loads : goal.returns-in_err-test_seated-clause-loads
returns-in_err-test_seated-clause-loads g c = takes_all c.args.facts.now c.args.tables.now (c.tables.i + 1) _ (takes_more c.args.tables.now c.tables.i (record { 0 = 0 }) _ c.tables-test.true c.tables.invariant.advances.more c.tables.invariant.loads c.test_seated.ensures.loads)

pub returns-in_err-test_seated-clause-advances : goal.returns-in_err-test_seated-clause-advances
returns-in_err-test_seated-clause-advances g c = advances_then c.tables.invariant.advances c.test_seated.ensures.advances

pub returns-in_err-test_seated-clause-only : goal.returns-in_err-test_seated-clause-only
returns-in_err-test_seated-clause-only g c = only_then c.tables.invariant.only c.test_seated.ensures.only

pub tables-preserved : goal.tables-preserved
tables-preserved g c =
    let old = c.tables.invariant in
    let new = c.test_seated.ensures in
    record {
      advances = advances_then old.advances new.advances;
      only = only_then old.only new.only;
      tested_each = λ f e. let before = new.advances.narrows f e in
          tested_on (held old.advances before) old.advances.more old.only new.advances.more (table_at c.args.tables.now c.tables.i (get_or c.args.tables.now c.tables.i (record { 0 = 0 })) (record { 0 = 0 }) c.tables-test.true refl) (old.tested_each f before)
          (c.in_ok-test_seated.ensures.table_each f e);
      without = without_later new.advances.more new.only c.in_ok-test_seated.ensures.stands;
      loads = takes_more c.args.tables.now c.tables.i (record { 0 = 0 }) _ c.tables-test.true old.advances.more old.loads new.loads;
    }

pub returns-clause-tables_each : goal.returns-clause-tables_each
returns-clause-tables_each g c = λ f e. tested_all (c.tables.invariant.tested_each f e) (let t = c.tables-test.false in omega (arith, t))

pub returns-clause-loads : goal.returns-clause-loads
returns-clause-loads g c = takes_all c.args.facts.now c.args.tables.now c.tables.i _ c.tables.invariant.loads
