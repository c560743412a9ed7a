use Rattle.design_netlist.proofs.Vocabulary.{◌≡◌, length, IsClosed, IsJoinedOn}
use Rattle.design_netlist.proofs.search.number_all.Given as goal

abbrev pub invariant-places : goal.invariant-places
invariant-places l = record {
  closed : IsClosed l.start l.k (length l.fn.order.items) l.fn.states.items l.states.items l.path;
  number : l.number ≡ length l.fn.order.items;
  listed : IsJoinedOn l.path l.fn.order.items l.order.items l.start l.k;
}
