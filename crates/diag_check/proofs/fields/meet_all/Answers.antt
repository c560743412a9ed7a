use Rattle.diag_check.proofs.Vocabulary.{◌<◌, length, arith, sym, ap, ◌∙◌, Some, slice_get-get_or}
use Rattle.diag_check.proofs.Fielding.{between_next}
use Rattle.diag_check.proofs.fields.meet_all.Goals as goal

pub taps-preserved : goal.taps-preserved
taps-preserved c =
    let taps = c.args.taps.now.items in
    let tap = c.index.result.now in
    let within : c.taps.j < length taps = (let all = c.len-j-end.ensures in let l = c.taps-test.true in omega (arith, l, all)) in
    between_next c.args.shape.now taps c.args.lines.now.items c.taps.j tap c.taps.invariant (slice_get-get_or taps c.taps.j tap within ∙ ap Some (sym c.index.ensures)) c.meet_lines.ensures
