use Rattle.std.proofs.Common.{◌<◌, Bool, List, length, get_or, sym, ap, ◌∙◌, arith, false, add-one, slice_set}
use Rattle.design_eval.proofs.BitLemmas.{put-none, put-more}
use Rattle.design_eval.proofs.bits.put_bits.Goals as goal

pub signals-init : goal.signals-init
signals-init c = sym (put-none c.args.values.now)

pub signals-preserved : goal.signals-preserved
signals-preserved c =
    let lt : c.signals.k < length c.args.bits.now = omega (arith, c.requires.bits) in
    ap (λ (xs : List Bool). slice_set xs (get_or c.args.signals.now c.signals.k 0) (get_or c.args.bits.now c.signals.k false)) c.signals.invariant ∙
    rw add-one (put-more c.args.values.now c.args.signals.now c.args.bits.now c.signals.k c.signals-test.true lt)
