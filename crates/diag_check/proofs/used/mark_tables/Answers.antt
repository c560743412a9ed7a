use Rattle.std.proofs.Common.{◌≡◌, Some, length, subst, arith, slice_get, slice_index_or}
use Rattle.diag_check.proofs.Vocabulary.{slice_get-get_or, Table, Adds, IsTablePinAmong}
use Rattle.diag_check.proofs.Adding.{tables_next}
use Rattle.diag_check.proofs.used.mark_tables.Goals as goal

pub tables-preserved : goal.tables-preserved
tables-preserved c =
    let ts = c.args.tables.now in
    let t : Table = slice_index_or ts c.tables.i (record { 0 = 0 }) in
    let here : slice_get ts c.tables.i ≡ Some t = slice_get-get_or ts c.tables.i (record { 0 = 0 }) c.tables-test.true in
    tables_next c.args.shape.now ts c.tables.i t c.tables.invariant here c.mark_table.ensures

pub returns : goal.returns
returns c =
    let e : c.tables.i ≡ length c.args.tables.now = omega arith in
    subst (λ n. Adds (IsTablePinAmong c.args.shape.now c.args.tables.now n) c.args.used.now c.tables.used) e c.tables.invariant
