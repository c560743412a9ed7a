use Rattle.diag_growth.proofs.Vocabulary.{◌<◌, ℕ, port_at, hextant_of, IsLine, HasWire, IsPlaceAt}
use Rattle.diag_growth.proofs.seats.find_place.Given as goal

abbrev pub invariant-ports : goal.invariant-ports
invariant-ports l =
    let h = hextant_of l.facts.shape l.t.0 in
    record {
      none : (i line : ℕ) → i < l.k → HasWire l.without.steps (port_at l.facts.shape h i) → IsLine l.facts.shape h line →
          ¬ IsPlaceAt l.facts l.known.steps l.without.steps l.t.0 (port_at l.facts.shape h i) line;
    }
