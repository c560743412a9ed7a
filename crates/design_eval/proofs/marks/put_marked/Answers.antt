use Rattle.std.proofs.Common.{◌<◌, ℕ, Bool, List, false, length, get_or, sym, ap, ◌∙◌, arith, add-one, slice_set}
use Rattle.design_eval.proofs.BitLemmas.{length-put, put-none, put-more}
use Rattle.design_eval.proofs.MarkLemmas.{still-none, still-more, still-all, given-taken, taken-none, taken-both}
use Rattle.design_eval.proofs.marks.put_marked.Goals as goal

pub signals-init : goal.signals-init
signals-init c = (sym (put-none c.args.values.now), c.requires.size, still-none c.args.readers.now c.args.marks.now c.args.values.now, c.requires.hints, taken-none 0 c.args.readers.now c.args.marks.now c.args.values.now)

pub signals-preserved : goal.signals-preserved
signals-preserved c =
    let s : ℕ = get_or c.args.signals.now c.signals.k 0 in
    let b : Bool = get_or c.args.bits.now c.signals.k false in
    let lt : c.signals.k < length c.args.bits.now = omega (arith, c.requires.bits) in
    let size = ap (λ (xs : List Bool). length xs) c.signals.invariant.0 ∙ length-put c.args.values.now _ _ in
    let within : s < length c.signals.values = omega (arith, size, c.requires.within c.signals.k c.signals-test.true) in (
      c.give.ensures.is ∙ ap (λ (xs : List Bool). slice_set xs s b) c.signals.invariant.0 ∙
          rw add-one (put-more c.args.values.now c.args.signals.now c.args.bits.now c.signals.k c.signals-test.true lt),
      c.give.ensures.len ∙ c.signals.invariant.1,
      still-more c.args.readers.now c.args.signals.now c.signals.k b c.args.marks.now c.args.values.now c.signals.marks c.signals.values c.give.new.marks c.give.new.values
          c.signals-test.true c.give.ensures within c.signals.invariant.2,
      c.give.auto.hints ∙ c.signals.invariant.3,
      taken-both 0 c.args.readers.now c.args.marks.now c.args.values.now c.signals.marks c.signals.values c.give.new.marks c.give.new.values c.signals.invariant.4
          (given-taken c.args.readers.now s b c.signals.marks c.signals.values c.give.new.marks c.give.new.values c.give.ensures within),
    )

pub returns-clause-kept : goal.returns-clause-kept
returns-clause-kept c = still-all c.args.readers.now c.args.signals.now c.signals.k c.args.marks.now c.args.values.now c.signals.marks c.signals.values c.signals-test.false c.signals.invariant.2
