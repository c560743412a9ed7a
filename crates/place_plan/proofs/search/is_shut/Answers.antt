use Rattle.place_plan.proofs.Vocabulary.{◌≡◌, ◌≢◌, ◌<◌, ℕ, subst, Shape, crosses_of, ends_of}
use Rattle.place_plan.proofs.Shut.{shut_some, shut_none}
use Rattle.place_plan.proofs.search.is_shut.Goals as goal

pub returns-in-Some : goal.returns-in-Some
returns-in-Some c =
    let d = c.args.defects.now in
    let found = c.in-Some.ensures.found in
    shut_some d c.args.tap c.args.line (c.the_crosspoints_are_sound.ensures.crosses d.shape) c.in-Some.cross.0 c.free_cross.result
    (subst (λ (m : Shape). c.in-Some.cross.0 < crosses_of m) c.shape.ensures.shape found.0) (subst (λ (m : Shape). ends_of m c.in-Some.cross.0 ≡ (c.args.tap, c.args.line)) c.shape.ensures.shape found.1) c.free_cross.ensures

pub returns-in-None : goal.returns-in-None
returns-in-None c =
    let d = c.args.defects.now in
    shut_none d c.args.tap c.args.line (subst (λ (m : Shape). (x : ℕ) → x < crosses_of m → ends_of m x ≢ (c.args.tap, c.args.line)) c.shape.ensures.shape c.in-None.ensures.none)
