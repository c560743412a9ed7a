use Rattle.diag_growth.proofs.Vocabulary.{false≢true, sym, ◌∙◌, ◌<◌, length, arith}
use Rattle.diag_growth.proofs.Remaining.{left_first, left_pass, left_put, left_all}
use Rattle.diag_growth.proofs.rest.left_crosses.Goals as goal

pub crosses-init : goal.crosses-init
crosses-init c = left_first c.args.field.now.crosses c.in_ok-set.set c.len.result c.len.ensures c.in_ok-set.ensures

pub crosses-preserved-then-not-has : goal.crosses-preserved-then-not-has
crosses-preserved-then-not-has c = left_pass c.crosses.invariant (λ on. absurd (false≢true (sym (sym c.has.ensures ∙ c.if-not-has.true) ∙ on)))

pub crosses-preserved-then-is_done : goal.crosses-preserved-then-is_done
crosses-preserved-then-is_done c = left_pass c.crosses.invariant (λ on. c.is_done.ensures c.if-is_done.true)

pub crosses-preserved : goal.crosses-preserved
crosses-preserved c =
    let within : c.crosses.x < length c.args.field.now.crosses = (let end = c.len-x-end.ensures in omega (arith, end)) in
    left_put c.crosses.invariant (sym c.has.ensures ∙ c.if-not-has.false) within c.insert.ensures

pub returns-clause-len : goal.returns-clause-len
returns-clause-len c = c.crosses.invariant.len

pub returns-clause-only : goal.returns-clause-only
returns-clause-only c = c.crosses.invariant.only

pub returns-clause-whole : goal.returns-clause-whole
returns-clause-whole c = left_all c.crosses.invariant (let end = c.len-x-end.ensures in omega (arith, end))
