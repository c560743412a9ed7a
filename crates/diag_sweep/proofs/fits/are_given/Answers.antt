use Rattle.diag_sweep.proofs.Vocabulary.{◌<◌, ◌≤◌, length, refl, subst, arith, All, take_all, Table, HasTable}
use Rattle.diag_sweep.proofs.Footed.{all_more}
use Rattle.diag_sweep.proofs.fits.are_given.Goals as goal

pub tables-preserved : goal.tables-preserved
tables-preserved c =
    let below : c.tables.k < length c.args.tables.now = omega arith in
    all_more c.args.tables.now c.tables.k c.table_at.result below c.table_at.ensures (λ (t : Table). HasTable c.args.given.now t.0) c.tables.invariant (c.if-not-has_table.ensures refl)

pub returns : goal.returns
returns c =
    let whole : length c.args.tables.now ≤ c.tables.k = omega arith in
    λ _. subst (All (λ (t : Table). HasTable c.args.given.now t.0)) (take_all c.tables.k c.args.tables.now whole) c.tables.invariant
