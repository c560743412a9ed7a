use Rattle.std.proofs.Common.{arith}
use Rattle.diag_known.proofs.{Crosswise.looked_at_all, Crosswise.looked_first, Grounding.founds_none, Grounding.founds_then}
use Rattle.diag_known.proofs.looks.look_around_all.Goals as goal

pub places-init : goal.places-init
places-init c = record { ground = c.requires.ground; founds = founds_none; looked = looked_first c.args.facts.now c.args.known.now c.args.left.now c.args.feet.now.items }

pub places-smaller : goal.places-smaller
places-smaller c =
    let n = c.in_ok-look_around.ensures.founds.count in
    let g = c.in_ok-look_around.ensures.founds.grows in
    let l = c.len.ensures.len in
    let t = c.places-test.true in
    omega (arith, n, g, l, t)

pub places-preserved : goal.places-preserved
places-preserved c = record {
  ground = c.in_ok-look_around.ensures.ground;
  founds = founds_then c.places.invariant.founds c.in_ok-look_around.ensures.founds;
  looked = c.in_ok-look_around.ensures.looked;
}

pub returns-clause-looked : goal.returns-clause-looked
returns-clause-looked c = looked_at_all c.args.facts.now c.places.known c.places.left c.places.feet.items c.places.place c.places.invariant.looked (let l = c.len.ensures.len in let t = c.places-test.false in omega (arith, l, t))
