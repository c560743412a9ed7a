use Rattle.diag_check.proofs.Vocabulary.{◌≡◌, ◌<◌, length, subst, sym, ◌∙◌, arith, crosses_of, Adds, IsNearBefore}
use Rattle.diag_check.proofs.Surrounding.{near_none, near_next, near_pass}
use Rattle.diag_check.proofs.near.mark_between.Goals as goal

pub places-init : goal.places-init
places-init c = near_none c.args.shape.now c.args.nodes.now c.args.wires.now

pub places-preserved : goal.places-preserved
places-preserved c =
    let a = c.places.invariant in
    let within : c.places.x < length c.places.crosses = (let all = c.crosses-x-end.ensures.crosses in let len = a.len in let d = c.requires.crosses in omega (arith, all, len, d)) in
    rw c.insert.ensures (near_next c.args.shape.now c.args.nodes.now c.args.wires.now c.places.x a within (sym c.is_near.ensures ∙ c.if-not-is_near.false))

pub places-preserved-then-not-is_near : goal.places-preserved-then-not-is_near
places-preserved-then-not-is_near c = near_pass c.args.shape.now c.args.nodes.now c.args.wires.now c.places.x c.places.invariant (sym c.is_near.ensures ∙ c.if-not-is_near.true)

pub returns : goal.returns
returns c =
    let e : c.places.x ≡ crosses_of c.args.shape.now = (let a = c.crosses-x-end.ensures.crosses in omega (arith, a)) in
    subst (λ n. Adds (IsNearBefore c.args.shape.now c.args.nodes.now c.args.wires.now n) c.args.crosses.now c.places.crosses) e c.places.invariant
