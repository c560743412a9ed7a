use Rattle.diag_sweep.proofs.Vocabulary.{◌<◌, ◌∙◌, length, refl, arith, Foot}
use Rattle.diag_sweep.proofs.Footed.{map_more}
use Rattle.diag_sweep.proofs.telling.wires_of_feet.Goals as goal

pub feet-preserved : goal.feet-preserved
feet-preserved c =
    let below : c.feet.k < length c.args.feet.now.items = omega arith in
    c.in_ok-push.ensures.items ∙ map_more c.args.feet.now.items c.feet.k c.foot_at.result below c.foot_at.ensures (λ (foot : Foot). foot.0.0) c.feet.wires.items c.foot_at.result.0.0 c.feet.invariant refl
