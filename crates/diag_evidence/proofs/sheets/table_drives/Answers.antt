use Rattle.diag_evidence.proofs.Vocabulary.{length, ap, ◌∙◌, arith, length-replicate, pins_of}
use Rattle.diag_evidence.proofs.Addresses.{all_drives, released_at, width_more}
use Rattle.diag_evidence.proofs.sheets.table_drives.Goals as goal

pub returns-clause-drives : goal.returns-clause-drives
returns-clause-drives c = rw c.in_ok-push-2.ensures.items (all_drives c.args.forest.now c.args.t.0 c.addresses.address c.addresses.drives.items c.addresses.invariant.drives c.in_ok-last.last (omega arith)
    (rw c.in_ok-last.ensures (released_at _)))

pub returns-clause-width : goal.returns-clause-width
returns-clause-width c = rw c.in_ok-push-2.ensures.items (width_more _ c.addresses.drives.items c.in_ok-last.last c.addresses.invariant.width
    (ap length c.in_ok-last.ensures ∙ length-replicate _ _ ∙ c.pins.ensures.pins ∙ ap pins_of c.shape.ensures.shape))
