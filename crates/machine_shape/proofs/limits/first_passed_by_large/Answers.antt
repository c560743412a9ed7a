use Rattle.machine_shape.proofs.Vocabulary.{◌∙◌, sym, arith, both_ways}
use Rattle.machine_shape.proofs.HighLimits.{small_is}
use Rattle.machine_shape.proofs.limits.first_passed_by_large.Goals as goal

pub returns-then-is_small_by-clause-none : goal.returns-then-is_small_by-clause-none
returns-then-is_small_by-clause-none c =
    let small = sym c.is_small_by.ensures ∙ c.if-is_small_by.true in
    let few = small_is c.args.counts small in
    (omega (arith, few.0), omega (arith, few.1), omega (arith, few.2), λ large. absurd (both_ways _ large small))
