use Rattle.diag_sweep.proofs.Vocabulary.{◌≡◌, ◌<◌, ◌∙◌, length, refl, arith, length-replicate}
use Rattle.diag_sweep.proofs.Sighting.{seen_first, numbers_more}
use Rattle.diag_sweep.proofs.seen.see_all.Goals as goal

pub numbers-init : goal.numbers-init
numbers-init c = rw c.clear.ensures (record { len = length-replicate _ _; seen = seen_first _ })

pub numbers-preserved : goal.numbers-preserved
numbers-preserved c =
    let below : c.numbers.k < length c.args.numbers.now = omega arith in
    record {
      len = c.is_new.ensures.len ∙ c.numbers.invariant.len;
      seen = numbers_more c.args.numbers.now c.numbers.k c.number_at-number.result below c.number_at-number.ensures c.numbers.invariant.seen (c.if-not-is_new.ensures.sees refl);
    }
