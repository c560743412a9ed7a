use Rattle.diag_known.proofs.Vocabulary.{◌≡◌, length, wires_of}
use Rattle.diag_known.proofs.Reaching.{IsReaching}
use Rattle.diag_known.proofs.beside.find_reached.Given as goal

abbrev pub invariant-places : goal.invariant-places
invariant-places l = record {
  len : length l.reaches.items ≡ wires_of l.known.shape;
  found : IsReaching l.known.steps l.route.wires l.i l.reaches.items;
}
