use Rattle.diag_sweep.proofs.Vocabulary.{◌<◌, ◌∙◌, length, refl, arith, over_of}
use Rattle.diag_sweep.proofs.Footed.{map_more}
use Rattle.diag_sweep.proofs.footing.first_feet.Goals as goal

pub hangs-preserved : goal.hangs-preserved
hangs-preserved c =
    let below : c.hangs.k < length c.args.hangs.now = omega arith in
    c.in_ok-push.ensures.items ∙ map_more c.args.hangs.now c.hangs.k c.hang_at-hang.result below c.hang_at-hang.ensures over_of c.hangs.feet.items (over_of c.hang_at-hang.result) c.hangs.invariant refl
