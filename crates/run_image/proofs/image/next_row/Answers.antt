use Rattle.run_image.proofs.Vocabulary.{◌∙◌, err_from_is_err_and}
use Rattle.run_image.proofs.CycleLemmas.{row-apart, row-added, row-stopped}
use Rattle.run_image.proofs.image.next_row.Goals as goal

pub returns-in_err-compare_row-clause-same : goal.returns-in_err-compare_row-clause-same
returns-in_err-compare_row-clause-same g c =
    let t = c.take_reading-end.ensures.same in
    let w = c.in_err-compare_row.ensures.same in
    record { image = w.image ∙ t.image; copies = w.copies ∙ t.copies; left = w.left ∙ t.left }

pub returns-in_err-compare_row-clause-fits : goal.returns-in_err-compare_row-clause-fits
returns-in_err-compare_row-clause-fits g c =
    let p = err_from_is_err_and c.from_residual.result c.from_residual.ensures.1 in
    rw p.1 tt

pub returns-in_err-compare_row-clause-place : goal.returns-in_err-compare_row-clause-place
returns-in_err-compare_row-clause-place g c =
    let p = err_from_is_err_and c.from_residual.result c.from_residual.ensures.1 in
    rw p.1 tt

pub returns-in_err-compare_row-clause-adds : goal.returns-in_err-compare_row-clause-adds
returns-in_err-compare_row-clause-adds g c =
    let p = err_from_is_err_and c.from_residual.result c.from_residual.ensures.1 in
    rw p.1 tt

pub returns-in_err-compare_row-clause-refused : goal.returns-in_err-compare_row-clause-refused
returns-in_err-compare_row-clause-refused g c =
    let p = err_from_is_err_and c.from_residual.result c.from_residual.ensures.1 in
    let t = c.take_reading-end.ensures in
    rw (p.1, p.2) (row-apart c.args.rows.now _ _ t.same t.block t.reading _ _ _ _ c.in_err-compare_row.ensures.refused)

pub returns-in_err-add_row-clause-same : goal.returns-in_err-add_row-clause-same
returns-in_err-add_row-clause-same g c =
    let t = c.take_reading-end.ensures.same in
    let w = c.in_ok-compare_row.ensures.same in
    let a = c.in_err-add_row.ensures.same in
    record { image = a.image ∙ (w.image ∙ t.image); copies = a.copies ∙ (w.copies ∙ t.copies); left = a.left ∙ (w.left ∙ t.left) }

pub returns-in_err-add_row-clause-fits : goal.returns-in_err-add_row-clause-fits
returns-in_err-add_row-clause-fits g c =
    let p = err_from_is_err_and c.from_residual-in_err-add_row.result c.from_residual-in_err-add_row.ensures.1 in
    rw p.1 tt

pub returns-in_err-add_row-clause-place : goal.returns-in_err-add_row-clause-place
returns-in_err-add_row-clause-place g c =
    let p = err_from_is_err_and c.from_residual-in_err-add_row.result c.from_residual-in_err-add_row.ensures.1 in
    rw p.1 tt

pub returns-in_err-add_row-clause-adds : goal.returns-in_err-add_row-clause-adds
returns-in_err-add_row-clause-adds g c =
    let p = err_from_is_err_and c.from_residual-in_err-add_row.result c.from_residual-in_err-add_row.ensures.1 in
    rw p.1 tt

pub returns-in_err-add_row-clause-refused : goal.returns-in_err-add_row-clause-refused
returns-in_err-add_row-clause-refused g c =
    let p = err_from_is_err_and c.from_residual-in_err-add_row.result c.from_residual-in_err-add_row.ensures.1 in
    let t = c.take_reading-end.ensures in
    let w = c.in_ok-compare_row.ensures in
    rw (p.1, p.2) (row-stopped c.args.rows.now _ _ t.same t.block t.reading c.compare_row.new.rows _ _ _ _ w.kept w.row _ c.in_err-add_row.ensures.waits)

pub returns-clause-same : goal.returns-clause-same
returns-clause-same g c =
    let t = c.take_reading-end.ensures.same in
    let w = c.in_ok-compare_row.ensures.same in
    let a = c.in_ok-add_row.ensures.same in
    record { image = a.image ∙ (w.image ∙ t.image); copies = a.copies ∙ (w.copies ∙ t.copies); left = a.left ∙ (w.left ∙ t.left) }

pub returns-clause-adds : goal.returns-clause-adds
returns-clause-adds g c =
    let t = c.take_reading-end.ensures in
    let w = c.in_ok-compare_row.ensures in
    row-added c.args.rows.now _ _ t.same t.block t.reading c.compare_row.new.rows _ _ _ _ w.kept w.row c.in_ok-add_row.ensures.waits

pub returns-clause-refused : goal.returns-clause-refused
returns-clause-refused g c = tt
