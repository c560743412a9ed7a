use Rattle.std.proofs.Common.{◌≡◌, ◌-◌, ◌<◌, ◌∙◌, ℕ, Bool, true, Some, List, length, get_or, sym, subst, arith, slice_index}
use Rattle.rig_simulated.proofs.Vocabulary.{get_or_default, slice_get-get_or}
use Rattle.rig_simulated.proofs.Chaining.{IsOnWay, way_on}
use Rattle.rig_simulated.proofs.chains.is_pulled.Goals as goal

same_value : {x y : Bool} → Some x ≡ Some y → x ≡ y
same_value e = cc

pub up-preserved : goal.up-preserved
up-preserved c =
    let at : ℕ = c.up.at in
    let drive : List Bool = c.args.drive.now in
    let before = c.args.chains.now.before.items in
    let some : 0 < at = c.up-test.true in
    let w = c.up.invariant.within in
    let inside : at - 1 < length before = omega (arith, w, some, c.requires.before) in
    let in_drive : at - 1 < length drive = omega (arith, w, some, c.requires.drive) in
    let next : c.index-at-in-up.result.now ≡ slice_index before (at - 1) = c.index-at-in-up.ensures ∙ get_or_default before (at - 1) c.index-at-in-up.result.now 0 inside in
    let high : get_or drive (at - 1) true ≡ true = same_value (sym (slice_get-get_or drive (at - 1) true in_drive) ∙ c.get.ensures) ∙ c.if-not-get.false in
    subst (λ n. IsOnWay c.args.pins.now c.args.class n (λ k. get_or drive k true ≡ true)) (sym next)
    (way_on c.args.pins.now c.args.chains.now.last.items before c.requires.chained c.args.class at (λ k. get_or drive k true ≡ true) (λ k. get_or drive k true ≡ true) c.up.invariant some c.if-pins-place.false (λ k d. d) high)
