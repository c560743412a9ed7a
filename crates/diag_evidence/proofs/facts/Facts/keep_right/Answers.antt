use Rattle.std.proofs.Common.{◌≡◌, ◌<◌, true, false, length, sym, subst, ap, ◌∙◌, arith}
use Rattle.diag_evidence.specs.Vocabulary.{is_right_in, output_pin, Gains, right_cells}
use Rattle.diag_evidence.proofs.{Righting.table_kept, Righting.table_left, Settings.is_one_at, Settings.within_at}
use Rattle.diag_evidence.proofs.facts.Facts.keep_right.Goals as goal
use Rattle.diag_evidence.proofs.facts.Facts.keep_right.Goals.{then-is_right_in, else-is_right_in}

pub is_right_in-requires-clause-pin : goal.is_right_in-requires-clause-pin
is_right_in-requires-clause-pin c =
    let below : c.tables.k < length c.args.tables.now = omega arith in
    let one = is_one_at c.args.tables.now c.tables.k c.table_at-t.result below c.table_at-t.ensures in
    let hung = c.requires.tables.hang c.table_at-t.result.0 6 one (omega arith) in
    rw c.requires.shape (c.output_of-pin.ensures.within hung.0 hung.1)

pub keep_register-requires : goal.keep_register-requires
keep_register-requires c =
    let below : c.tables.k < length c.args.tables.now = omega arith in
    rw (c.tables.invariant.gains.shape, ← c.requires.attached) (within_at _ c.args.tables.now c.tables.k c.table_at-t.result c.requires.tables.within below c.table_at-t.ensures)

pub keep_cells-requires-clause-table : goal.keep_cells-requires-clause-table
keep_cells-requires-clause-table c =
    let below : c.tables.k < length c.args.tables.now = omega arith in
    rw (c.keep_register.ensures.shape, c.tables.invariant.gains.shape, ← c.requires.attached) (within_at _ c.args.tables.now c.tables.k c.table_at-t.result c.requires.tables.within below c.table_at-t.ensures)

pub tables-preserved : goal.tables-preserved
tables-preserved c =
    let below : c.tables.k < length c.args.tables.now = omega arith in
    let s = c.args.sheet.now.setting in
    let reads = c.args.sheet.now.reads.items in
    let opposite = c.args.sheet.now.opposite.items in
    let here : c.is_right_in.result ≡ is_right_in s reads opposite (output_pin c.args.forest.now c.table_at-t.result.0) 0 = c.is_right_in.ensures ∙ ap (λ p. is_right_in s reads opposite p 0) c.output_of-pin.ensures.pin in
    elim c.if-is_right_in.branch [
      | then-is_right_in w ↦ (
          let cells = subst (λ p. Gains (right_cells c.table_at-t.result.0 s reads opposite p 64) w.keep_register.new.self w.keep_cells.new.self) c.output_of-pin.ensures.pin w.keep_cells.ensures in
          rw w.self-is (record {
            gains = table_kept c.args.tables.now c.tables.k c.table_at-t.result below c.table_at-t.ensures s reads opposite c.args.forest.now (sym here ∙ w.if-is_right_in.true) c.tables.invariant.gains w.keep_register.ensures cells;
          }))
      | else-is_right_in w ↦ rw w.self-is (record {
        gains = table_left c.args.tables.now c.tables.k c.table_at-t.result below c.table_at-t.ensures s reads opposite c.args.forest.now (sym here ∙ w.if-is_right_in.false) c.tables.invariant.gains;
      })
    ]
