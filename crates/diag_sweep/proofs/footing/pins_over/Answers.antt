use Rattle.diag_sweep.proofs.Vocabulary.{◌<◌, ◌∙◌, length, arith, IsFoot, pin_at}
use Rattle.diag_sweep.proofs.Footed.{all_more, map_more}
use Rattle.diag_sweep.proofs.footing.pins_over.Goals as goal

pub feet-preserved : goal.feet-preserved
feet-preserved c =
    let below : c.feet.k < length c.args.feet.now.items = omega arith in
    record {
      each = all_more c.args.feet.now.items c.feet.k c.foot_at.result below c.foot_at.ensures (IsFoot c.args.forest.now) c.feet.invariant.each c.in-Some.ensures.foot;
      pins = c.in_ok-push.ensures.items ∙ map_more c.args.feet.now.items c.feet.k c.foot_at.result below c.foot_at.ensures (pin_at c.args.forest.now) c.feet.pins.items c.in-Some.pin c.feet.invariant.pins c.in-Some.ensures.pin;
    }
