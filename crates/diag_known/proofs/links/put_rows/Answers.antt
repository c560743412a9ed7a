use Rattle.diag_known.proofs.Linking.{earlier_more, listed_above, listed_still, none_above, none_earlier, none_in_order, none_listed}
use Rattle.diag_known.proofs.Settling.{on_ok_so}
use Rattle.diag_known.specs.Vocabulary.{across_of}
use Rattle.diag_known.specs.declared.looks.Across.TheVariants as across
use Rattle.diag_known.proofs.links.put_rows.Goals as goal

pub returns-in_default-clause-above : goal.returns-in_default-clause-above
returns-in_default-clause-above c = on_ok_so c.put_row.result c.put_row.ensures.right (λ right n up. absurd (none_above c.args.shape.now c.args.node.0 c.in_default.ensures.none.0 up))

pub returns-clause-above : goal.returns-clause-above
returns-clause-above c =
    on_ok_so c.put_row-3.result c.put_row-3.ensures.stays
    (λ stays n up. listed_still c.args.shape.now c.args.field.now across.Lines c.args.tap.0 n (across_of c.args.shape.now across.Lines n) stays (listed_above c.args.shape.now c.args.field.now _ c.args.tap.0 c.args.node.0 c.in-Some.ensures.some.0 up c.in_ok-put_row.ensures.listed))
