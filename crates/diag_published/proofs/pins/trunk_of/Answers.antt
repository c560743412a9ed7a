use Rattle.diag_published.proofs.Vocabulary.{◌<◌, All, sym, subst, Shape, Wire, wires_of, wire_numbers}
use Rattle.diag_published.proofs.Trunking.{trunk_of_those, one_known}
use Rattle.diag_published.proofs.pins.trunk_of.Goals as goal

pub known_of-requires : goal.known_of-requires
known_of-requires c = subst (λ (m : Shape). All (λ (w : Wire). w.0 < wires_of m) c.args.wires.now) (sym c.requires.known.shape) c.requires.within

pub returns-in_default-clause-none : goal.returns-in_default-clause-none
returns-in_default-clause-none c = one_known c.args.known.now (wire_numbers c.args.wires.now) (wire_numbers c.in_ok-those.those.items) c.in_ok-those.ensures.known (rw c.deref.ensures.value at c.in_default.ensures.none)

pub trunk_to-requires-clause-a : goal.trunk_to-requires-clause-a
trunk_to-requires-clause-a c = (c.in_ok-those.ensures.known.each c.in-Some.a.0 (rw c.deref.ensures.value at c.in-Some.ensures.two.first)).1

pub trunk_to-requires-clause-b : goal.trunk_to-requires-clause-b
trunk_to-requires-clause-b c = (c.in_ok-those.ensures.known.each c.in-Some.b.0 (rw c.deref.ensures.value at c.in-Some.ensures.two.second)).1

pub trunk_to-requires-clause-differ : goal.trunk_to-requires-clause-differ
trunk_to-requires-clause-differ c = c.in-Some.ensures.two.differ

pub returns-clause-trunk : goal.returns-clause-trunk
returns-clause-trunk c = trunk_of_those (wire_numbers c.args.wires.now) (wire_numbers c.in_ok-those.those.items) c.in-Some.a.0 c.in-Some.b.0 c.in_ok-those.ensures.known (rw c.deref.ensures.value at c.in-Some.ensures.two) c.in_ok-trunk.ensures
