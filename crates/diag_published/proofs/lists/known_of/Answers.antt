use Rattle.diag_published.proofs.Vocabulary.{refl, wires_of, HasWire}
use Rattle.diag_published.proofs.Listing.{some_none, some_pushed, some_same, none_within, pushed_within}
use Rattle.diag_published.proofs.lists.known_of.Goals as goal

pub wires-init : goal.wires-init
wires-init c = record {
  list = rw c.new-those.ensures.items (some_none (HasWire c.args.known.now.steps));
  within = rw c.new-those.ensures.items (none_within (wires_of c.args.known.now.shape));
}

pub wires-preserved-then-not-has : goal.wires-preserved-then-not-has
wires-preserved-then-not-has c = record {
  list = some_same (HasWire c.args.known.now.steps) c.args.wires.now c.wires.wire-index _ c.wires-test.true c.wires.those.items c.wires.invariant.list (c.has.ensures.unknown c.if-not-has.true);
  within = c.wires.invariant.within;
}

pub wires-preserved : goal.wires-preserved
wires-preserved c =
    let is = c.in_ok-push.ensures.items in
    record {
      list = some_pushed (HasWire c.args.known.now.steps) c.args.wires.now c.wires.wire-index _ c.wires-test.true c.wires.those.items is c.wires.invariant.list refl (c.has.ensures.known c.if-not-has.false);
      within = pushed_within (wires_of c.args.known.now.shape) c.wires.those.items is c.wires.invariant.within (c.requires c.wires.wire-index _ c.wires-test.true);
    }
