use Rattle.std.proofs.Common.{◌≡◌, ◌<◌, ℕ, true, false, not, ◌&&◌, ◌||◌, length, take, sym, ap, ◌∙◌, arith}
use Rattle.diag_evidence.proofs.Vocabulary.{length-set, take_all, has_number, is_one_of, is_right_before, output_pin}
use Rattle.diag_evidence.proofs.{Righting.mark_left, Righting.mark_made, Settings.is_one_at, Settings.within_at}
use Rattle.diag_evidence.proofs.table_rows.mark_wrong.Goals as goal
use Rattle.diag_evidence.proofs.table_rows.mark_wrong.Goals.{then-not-is_right, else-not-is_right}

pub is_right-requires-clause-pin : goal.is_right-requires-clause-pin
is_right-requires-clause-pin c =
    let below : c.tables.k < length c.args.tables.now = omega arith in
    let one = is_one_at c.args.tables.now c.tables.k c.table_at-t.result below c.table_at-t.ensures in
    let hung = c.requires.tables.hang c.table_at-t.result.0 6 one (omega arith) in
    rw c.requires.shape (c.output_of.ensures.within hung.0 hung.1)

pub insert-requires : goal.insert-requires
insert-requires c =
    let below : c.tables.k < length c.args.tables.now = omega arith in
    rw (c.tables.invariant.len, c.requires.wrong) (within_at _ c.args.tables.now c.tables.k c.table_at-t.result c.requires.tables.within below c.table_at-t.ensures)

pub tables-preserved : goal.tables-preserved
tables-preserved c =
    let below : c.tables.k < length c.args.tables.now = omega arith in
    let F = λ (u : ℕ). is_right_before c.args.sheet.now.setting c.args.sheet.now.reads.items c.args.sheet.now.opposite.items (output_pin c.args.forest.now u) 65 in
    let here : c.is_right.result ≡ F c.table_at-t.result.0 = c.is_right.ensures ∙ ap (λ p. is_right_before c.args.sheet.now.setting c.args.sheet.now.reads.items c.args.sheet.now.opposite.items p 65) c.output_of.ensures.pin in
    elim c.if-not-is_right.branch [
      | then-not-is_right w ↦ (
          let room : c.table_at-t.result.0 < length c.tables.wrong = rw (c.tables.invariant.len, c.requires.wrong) (within_at _ c.args.tables.now c.tables.k c.table_at-t.result c.requires.tables.within below c.table_at-t.ensures) in
          rw (w.wrong-is, w.insert.ensures) (record {
            marks = mark_made c.args.tables.now c.tables.k c.table_at-t.result below c.table_at-t.ensures F c.tables.wrong c.args.wrong.now c.tables.invariant.marks (sym here ∙ w.if-not-is_right.true) room;
            len = length-set c.tables.wrong _ _ ∙ c.tables.invariant.len;
          }))
      | else-not-is_right w ↦ rw w.wrong-is (record {
        marks = mark_left c.args.tables.now c.tables.k c.table_at-t.result below c.table_at-t.ensures F c.tables.wrong c.args.wrong.now c.tables.invariant.marks (sym here ∙ w.if-not-is_right.false);
        len = c.tables.invariant.len;
      })
    ]

pub returns-clause-marks : goal.returns-clause-marks
returns-clause-marks c =
    let whole : take c.tables.k c.args.tables.now ≡ c.args.tables.now = take_all c.tables.k c.args.tables.now (omega arith) in
    λ t. c.tables.invariant.marks t ∙ ap (λ ts. (is_one_of ts t && not (is_right_before c.args.sheet.now.setting c.args.sheet.now.reads.items c.args.sheet.now.opposite.items (output_pin c.args.forest.now t) 65)) || has_number c.args.wrong.now t) whole
