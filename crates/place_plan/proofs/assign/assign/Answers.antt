use Rattle.place_plan.proofs.Vocabulary.{◌≡◌, ℕ, List, Option, length, sym, subst, range_with_len, serves_by, IsPartial, ArePicks}
use Rattle.place_plan.proofs.{Given.at_some, Picked.picked}
use Rattle.place_plan.proofs.assign.assign.Goals as goal

pub holds-requires : goal.holds-requires
holds-requires c =
    let partial : IsPartial (serves_by c.args.defects.now c.args.asks.now) c.args.lines.now (range_with_len 0 (length c.args.asks.now)) c.in-Some.owners.items = at_some _ _ _ c.in-Some.is (c.in_ok-owners.ensures {u = tt}) in
    subst (λ (z : List (Option ℕ)). length z ≡ length c.args.lines.now) (sym c.deref.ensures.value) partial.sized

pub returns-in-Some : goal.returns-in-Some
returns-in-Some c =
    let partial : IsPartial (serves_by c.args.defects.now c.args.asks.now) c.args.lines.now (range_with_len 0 (length c.args.asks.now)) c.in-Some.owners.items = at_some _ _ _ c.in-Some.is (c.in_ok-owners.ensures {u = tt}) in
    picked _ _ _ c.in-Some.owners.items _ partial c.requires.apart
    (subst (λ z. ArePicks c.args.lines.now z c.in_ok-holds.field-0.items (length c.args.lines.now)) c.deref.ensures.value (c.in_ok-holds.ensures {u = tt}))
