use Rattle.place_pair.proofs.Vocabulary.{◌≡◌, ℕ, get_or, take, ap, ◌∙◌, subst, true, ◌↔◌, take_more, Cross, Shape, ends_of, IsHeldBy}
use Rattle.place_pair.proofs.Keeping.{held_none, held_more}
use Rattle.place_pair.proofs.splitting.close_held.Goals as goal

abbrev no_cross : Cross
no_cross = record { 0 = 0 }

pub loop-cross-init : goal.loop-cross-init
loop-cross-init c = held_none c.args.config.now.config.shape c.args.site.now c.args.network.now c.args.owners.now c.args.config.now.config

pub loop-cross-preserved : goal.loop-cross-preserved
loop-cross-preserved c =
    let m : Shape = c.args.config.now.config.shape in
    let s = c.args.site.now in
    let n = c.args.network.now in
    let owners = c.args.owners.now in
    let cross : Cross = get_or c.args.closed.now c.loop-cross.cross-index no_cross in
    let tap : c.ends.result.0.0 ≡ (ends_of m cross.0).0 = ap (λ (p : ℕ × ℕ). p.0) c.ends.ensures.ends ∙ ap (λ (z : Shape). (ends_of z cross.0).0) c.shape-shape.ensures.shape in
    let held : (c.has_owner-held.result ≡ true) ↔ IsHeldBy s n owners c.ends.result.0.0 = c.has_owner-held.ensures in
    let is : (c.has_owner-held.result ≡ true) ↔ IsHeldBy s n owners (ends_of m cross.0).0 = subst (λ w. (c.has_owner-held.result ≡ true) ↔ IsHeldBy s n owners w) tap held in
    rw (take_more c.args.closed.now c.loop-cross.cross-index no_cross c.loop-cross-test.true) (held_more m s n owners (take c.loop-cross.cross-index c.args.closed.now) cross c.loop-cross.cross-index c.has_owner-held.result c.args.config.now.config c.loop-cross.config.config c.close_if.new.config.config is c.in_ok-close_if.ensures c.loop-cross.invariant)
