use Rattle.std.proofs.Common.{rules, ◌≡◌, ◌-◌, ◌<◌, ◌∙◌, ℕ, Bool, true, List, length, get_or, set, sym, ap, subst, arith, slice_index}
use Rattle.std.proofs.lemmas.List.{get_or_default, get_or-set_other}
use Rattle.rig_simulated.proofs.Chaining.{IsOnWay, way_on, put_here, put_keeps}
use Rattle.rig_simulated.proofs.chains.put_level.Goals as goal

pub up-preserved : goal.up-preserved
up-preserved c =
    let at : ℕ = c.up.at in
    let pins = c.args.pins.now in
    let class : ℕ = c.args.class in
    let level : Bool = c.args.level in
    let read : List Bool = c.up.read in
    let before = c.args.chains.now.before.items in
    let some : 0 < at = c.up-test.true in
    let w = c.up.invariant.way.within in
    let inside : at - 1 < length before = omega (arith, w, some, c.requires.before) in
    let in_read : at - 1 < length read = omega (arith, w, some, c.requires.read, c.up.invariant.len) in
    let next : c.index-at-in-up.result.now ≡ slice_index before (at - 1) = c.index-at-in-up.ensures ∙ get_or_default before (at - 1) c.index-at-in-up.result.now 0 inside in
    let is : slice_index pins (at - 1) ≡ class = c.if-pins-place.false in
    record {
      len = search rules;
      way = subst (λ (r : List Bool). IsOnWay pins class c.index-at-in-up.result.now (λ k. get_or r k true ≡ level)) (sym c.set.ensures)
          (subst (λ n. IsOnWay pins class n (λ k. get_or (set read (at - 1) level) k true ≡ level)) (sym next)
          (way_on pins c.args.chains.now.last.items before c.requires.chained class at (λ k. get_or read k true ≡ level) (λ k. get_or (set read (at - 1) level) k true ≡ level) c.up.invariant.way some is (put_keeps read (at - 1) level in_read) (put_here read (at - 1) level in_read)));
      others = λ k n. ap (λ (r : List Bool). get_or r k true) c.set.ensures ∙ get_or-set_other read (at - 1) k level true (λ e. n (ap (slice_index pins) e ∙ is)) ∙ c.up.invariant.others k n;
    }
