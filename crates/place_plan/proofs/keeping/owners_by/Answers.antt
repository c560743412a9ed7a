use Rattle.place_plan.proofs.Vocabulary.{◌≡◌, ℕ, List, Option, None, length, subst, arith, range_with_len, serves_by, owner_at, IsPartial}
use Rattle.place_plan.proofs.{Moves.place, Ranges.range_push, Ranges.not_in_range}
use Rattle.place_plan.proofs.keeping.owners_by.Goals as goal

pub asks-preserved : goal.asks-preserved
asks-preserved c =
    let serves = serves_by c.args.site.now.defects.now c.args.site.now.asks.now in
    let lines = c.args.site.now.lines.now in
    let k : ℕ = c.asks.k in
    let j : ℕ = c.number_at-place.result in
    let may = c.may_have.ensures in
    let free : owner_at c.asks.owners.items j ≡ None = subst (λ (z : List (Option ℕ)). owner_at z j ≡ None) c.deref.ensures.value (may.free c.if-not-may_have.false) in
    rw (range_push k) (place serves lines (range_with_len 0 k) c.asks.owners.items j k c.asks.invariant free (may.within c.if-not-may_have.false) (may.serving c.if-not-may_have.false) (not_in_range k))

pub returns : goal.returns
returns c =
    let serves = serves_by c.args.site.now.defects.now c.args.site.now.asks.now in
    let e : c.asks.k ≡ length c.args.site.now.asks.now = omega arith in
    subst (λ (n : ℕ). IsPartial serves c.args.site.now.lines.now (range_with_len 0 n) c.asks.owners.items) e c.asks.invariant
