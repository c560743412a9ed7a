use Rattle.diag_known.proofs.Vocabulary.{IsGround, Founds}
use Rattle.diag_known.specs.Vocabulary.{AreLookedAcross, HasWire}
use Rattle.diag_known.proofs.looks.take_across.Given as goal

abbrev pub invariant-places : goal.invariant-places
invariant-places l = record {
  ground : IsGround l.facts l.known l.left l.feet.items;
  founds : Founds l.fn.known l.known l.fn.left l.left l.fn.feet.items l.feet.items;
  looked : AreLookedAcross l.facts l.left l.feet.items l.look.across l.look.from.0 l.node.0 l.place;
  stands : HasWire l.known.steps l.look.from.0;
}
