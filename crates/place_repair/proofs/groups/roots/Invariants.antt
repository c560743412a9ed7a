use Rattle.place_repair.specs.Groups.{AreRootsTo}
use Rattle.place_repair.proofs.groups.roots.Given as goal

abbrev pub invariant-loop-wire : goal.invariant-loop-wire
invariant-loop-wire l = AreRootsTo l.wire l.parents l.roots.items
