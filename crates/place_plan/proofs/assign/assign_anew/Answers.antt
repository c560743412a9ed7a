use Rattle.place_plan.proofs.Vocabulary.{◌≡◌, ◌++◌, [], ◌∷◌, ◌+◌, ◌<◌, ℕ, List, Option, Some, length, sym, subst, arith, range_with_len}
use Rattle.place_plan.proofs.Vocabulary.{common_steps, take_at, serves_by, IsAnswer, owner_at, IsPartial, IsDeadEnd, ArePicks}
use Rattle.std.proofs.lemmas.Result.{IfOk-weaker}
use Rattle.place_plan.proofs.{Given.at_none, Given.at_some, Ranges.range_push, Ranges.range_within, Ranges.not_in_range, Ranges.range_below}
use Rattle.place_plan.proofs.Picked.{picked}
use Rattle.place_plan.proofs.assign.assign_anew.Goals as goal

pub give-requires-clause-own : goal.give-requires-clause-own
give-requires-clause-own c j n e =
    let o : owner_at c.loop-k.owners.items j ≡ Some n = subst (λ (z : List (Option ℕ)). owner_at z j ≡ Some n) c.deref_mut.ensures.value e in
    let l : n < c.loop-k.k = range_below c.loop-k.k n (c.loop-k.invariant.serving j n o).1 in
    omega arith

pub returns-in-Some : goal.returns-in-Some
returns-in-Some c =
    let serves = serves_by c.args.defects.now c.args.asks.now in
    let n = length c.args.asks.now in
    let k : ℕ = c.loop-k.k in
    let dead : IsDeadEnd serves c.args.lines.now c.loop-k.owners.items k c.deref.result.now = rw c.deref.ensures.value (rw c.deref_mut.ensures.value at (at_some _ _ _ c.in-Some.is c.in_ok-steps.ensures.none)) in
    IfOk-weaker c.lacking.result _ (IsAnswer serves (range_with_len 0 n) c.args.lines.now)
    (λ a says. says (range_with_len 0 k) c.loop-k.owners.items k c.loop-k.invariant dead (not_in_range k) (range_within n k c.loop-k-test.true) c.requires.apart) c.lacking.ensures

pub loop-k-preserved : goal.loop-k-preserved
loop-k-preserved c =
    let serves = serves_by c.args.defects.now c.args.asks.now in
    let k : ℕ = c.loop-k.k in
    let le : length c.give.new.owners ≡ c.loop-k.owners.len = grind (arith, common_steps) in
    let p : IsPartial serves c.args.lines.now (range_with_len 0 k) c.deref_mut.result.now = rw c.deref_mut.ensures.value c.loop-k.invariant in
    let more : IsPartial serves c.args.lines.now (range_with_len 0 k ++ k ∷ []) c.give.new.owners = at_none _ _ c.in_default.not-Some c.in_ok-steps.ensures.given (range_with_len 0 k) p (not_in_range k) in
    subst (IsPartial serves c.args.lines.now (range_with_len 0 (k + 1))) (sym (take_at _ _ _ le)) (rw (range_push k) more)

pub returns : goal.returns
returns c =
    let serves = serves_by c.args.defects.now c.args.asks.now in
    let e : c.loop-k.k ≡ length c.args.asks.now = omega arith in
    picked _ _ _ c.loop-k.owners.items _ (subst (λ (n : ℕ). IsPartial serves c.args.lines.now (range_with_len 0 n) c.loop-k.owners.items) e c.loop-k.invariant) c.requires.apart
    (subst (λ z. ArePicks c.args.lines.now z c.in_ok-holds.field-0.items (length c.args.lines.now)) c.deref-2.ensures.value (c.in_ok-holds.ensures {u = tt}))
