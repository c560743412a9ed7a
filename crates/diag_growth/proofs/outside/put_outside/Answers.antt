use Rattle.diag_growth.proofs.Vocabulary.{◌<◌, length, subst, arith, Shape, IsOutside}
use Rattle.diag_growth.proofs.Outsides.{puts_none, puts_one}
use Rattle.diag_growth.proofs.outside.put_outside.Goals as goal

pub returns-then-not-is_outside : goal.returns-then-not-is_outside
returns-then-not-is_outside c =
    record { puts = puts_none c.wire_at-w.ensures.at (subst (λ (m : Shape). ¬ IsOutside m c.args.hextant.0 c.wire_at-w.result.0) c.shape.ensures (c.is_outside.ensures.inside c.if-not-is_outside.true)) }

pub returns : goal.returns
returns c =
    let within : c.wire_at-w.result.0 < length c.args.set.now = let w = c.wire_at-w.ensures.within in let l = c.requires.len in omega (arith, w, l) in
    record { puts = puts_one c.wire_at-w.ensures.at (subst (λ (m : Shape). IsOutside m c.args.hextant.0 c.wire_at-w.result.0) c.shape.ensures (c.is_outside.ensures.outside c.if-not-is_outside.false)) within c.insert.ensures }
