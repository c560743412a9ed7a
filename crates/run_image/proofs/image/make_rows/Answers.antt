use Rattle.run_image.proofs.Vocabulary.{◌∙◌, err_from_is_err_and}
use Rattle.run_image.proofs.CycleLemmas.{makes-rows, makes-none, undriven, undriven-held}
use Rattle.run_image.proofs.image.make_rows.Goals as goal

pub returns-in-Ok-clause-same : goal.returns-in-Ok-clause-same
returns-in-Ok-clause-same g c =
    let d = c.in-Ok.ensures in
    let a = c.add_rows.ensures in
    record { image = a.same.image ∙ d.same.image; copies = a.same.copies ∙ d.same.copies }

pub returns-in-Ok-clause-makes : goal.returns-in-Ok-clause-makes
returns-in-Ok-clause-makes g c =
    let d = c.in-Ok.ensures in
    makes-rows c.add_rows.result c.args.count c.args.rows.now c.drive_rows.new.rows c.add_rows.new.rows.block.text _ _ _ _ d.same.copies d.block d.rows c.add_rows.ensures.adds

pub returns-in-Ok-clause-refused : goal.returns-in-Ok-clause-refused
returns-in-Ok-clause-refused g c =
    let d = c.in-Ok.ensures in
    makes-none c.add_rows.result c.args.count c.args.rows.now c.drive_rows.new.rows c.add_rows.new.rows.block.text _ _ _ _ d.same.copies d.block d.rows c.add_rows.ensures.refused

pub returns-in_err-put-clause-fits : goal.returns-in_err-put-clause-fits
returns-in_err-put-clause-fits g c =
    let p = err_from_is_err_and c.from_residual.result c.from_residual.ensures.1 in
    rw p.1 tt

pub returns-in_err-put-clause-left : goal.returns-in_err-put-clause-left
returns-in_err-put-clause-left g c =
    let p = err_from_is_err_and c.from_residual.result c.from_residual.ensures.1 in
    rw p.1 tt

pub returns-in_err-put-clause-makes : goal.returns-in_err-put-clause-makes
returns-in_err-put-clause-makes g c =
    let p = err_from_is_err_and c.from_residual.result c.from_residual.ensures.1 in
    rw p.1 tt

pub returns-in_err-put-clause-refused : goal.returns-in_err-put-clause-refused
returns-in_err-put-clause-refused g c =
    let p = err_from_is_err_and c.from_residual.result c.from_residual.ensures.1 in
    let e = c.in_err-put.ensures in
    let d = c.in-Err.ensures in
    rw (p.1, p.2) (undriven-held _ c.in-Err.fail c.args.count c.args.rows.now c.drive_rows.new.rows c.put.new.self.text _ _ _ _ d.block e.some e.puts d.refused)

pub returns-clause-refused : goal.returns-clause-refused
returns-clause-refused g c =
    let e = c.in_ok-put.ensures in
    let d = c.in-Err.ensures in
    rw c.from.ensures (undriven c.in-Err.fail c.args.count c.args.rows.now c.drive_rows.new.rows c.put.new.self.text _ _ _ _ d.block e.empty e.puts d.refused)
