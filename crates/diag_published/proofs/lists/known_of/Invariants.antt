use Rattle.diag_published.proofs.Vocabulary.{◌<◌, All, take, wires_of, IsKnownOf, IsListOf, wire_numbers}
use Rattle.diag_published.proofs.lists.known_of.Given as goal

abbrev pub invariant-wires : goal.invariant-wires
invariant-wires l =
    record {
      list : IsListOf (IsKnownOf l.known (wire_numbers (take l.wire-index l.wires))) (wire_numbers l.those.items);
      within : All (λ w. w.0 < wires_of l.known.shape) l.those.items;
    }
