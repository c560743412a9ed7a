use Rattle.std.proofs.Common.{◌<◌, ◌∙◌, sym, ap, subst, length, refl, arith}
use Rattle.rig_simulated.proofs.ClassLemmas.{knot_is}
use Rattle.rig_simulated.proofs.classes.root_of.Goals as goal

pub up-init : goal.up-init
up-init c =
    let same = knot_is c.args.knots.now c.args.wire _ c.requires.within in
    record {
      within = c.requires.within;
      here = same;
      low = (rw same (let few = c.requires.rooted.roots.few c.args.wire in omega (arith, few, c.requires.rooted.low)));
      root_is = λ most root roots. refl;
    }

pub up-preserved : goal.up-preserved
up-preserved c =
    let inside : c.up.knot.parent < length c.args.knots.now = subst (λ k. k.parent < length c.args.knots.now) (sym c.up.invariant.here) (c.requires.rooted.roots.within c.up.at c.up.invariant.within) in
    let same = knot_is c.args.knots.now c.up.knot.parent _ inside in
    record {
      within = inside;
      here = same;
      low = (rw same (let few = c.requires.rooted.roots.few c.up.knot.parent in omega (arith, few, c.requires.rooted.low)));
      root_is = λ most root roots. ap (λ k. root k.parent) c.up.invariant.here ∙ roots.up c.up.at ∙ c.up.invariant.root_is most root roots;
    }
