use Rattle.std.proofs.Common.{refl}
use Rattle.place_repair.proofs.Grouping.{found_here, found_then, step_up}
use Rattle.place_repair.proofs.groups.root_of.Goals as goal

pub up-init : goal.up-init
up-init c = record { found = found_here c.args.parents.now c.args.wire c.requires.low c.requires.within; here = refl }

pub up-preserved : goal.up-preserved
up-preserved c = record {
  found = found_then _ _ _ c.args.wire c.up.at _ c.up.invariant.found (step_up c.up.parents c.up.at c.up.up c.up.invariant.found.low c.up.invariant.found.within c.up.invariant.here c.up-test.true);
  here = refl;
}
