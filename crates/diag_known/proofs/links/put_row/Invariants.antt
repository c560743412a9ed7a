use Rattle.std.proofs.Common.{◌+◌, ◌*◌}
use Rattle.diag_known.specs.Vocabulary.{AreBelow, AreInField, AreInOrder, AreListed, HasMore}
use Rattle.diag_known.proofs.links.put_row.Given as goal

abbrev pub invariant-places : goal.invariant-places
invariant-places l = record {
  right : AreInField l.shape l.field l.look.from.0 l.links.items;
  ordered : AreInOrder l.shape l.links.items;
  below : AreBelow l.shape l.links.items l.node.0 (l.row.first + l.place * l.row.step);
  stays : HasMore l.fn.links.items l.links.items;
  listed : AreListed l.shape l.field l.links.items l.look.across l.look.from.0 l.node.0 l.place;
}
