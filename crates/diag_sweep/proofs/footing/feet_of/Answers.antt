use Rattle.diag_sweep.proofs.Vocabulary.{◌<◌, ◌∙◌, length, arith, overs}
use Rattle.diag_sweep.proofs.Footed.{others_more}
use Rattle.diag_sweep.proofs.footing.feet_of.Goals as goal

pub hangs-preserved : goal.hangs-preserved
hangs-preserved c =
    let below : c.hangs.k < length c.args.hangs.now = omega arith in
    c.in_ok-push.ensures.items ∙ others_more c.args.hangs.now c.hangs.k c.hang_at-hang.result below c.hang_at-hang.ensures (overs c.args.hangs.now) c.hangs.feet.items c.hangs.invariant
