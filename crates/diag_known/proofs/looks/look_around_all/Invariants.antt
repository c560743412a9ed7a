use Rattle.diag_known.proofs.Vocabulary.{◌+◌, ◌-◌, ◌*◌, length, size_of, IsGround, Founds}
use Rattle.diag_known.specs.Vocabulary.{AreLooked}
use Rattle.diag_known.proofs.looks.look_around_all.Given as goal

abbrev pub invariant-places : goal.invariant-places
invariant-places l = record {
  ground : IsGround l.facts l.known l.left l.feet.items;
  founds : Founds l.fn.known l.known l.fn.left l.left l.fn.feet.items l.feet.items;
  looked : AreLooked l.facts l.known l.left l.feet.items l.place;
}

abbrev pub decreases-places : goal.decreases-places
decreases-places l = 2 * size_of l.left + (length l.known.steps - l.place)
