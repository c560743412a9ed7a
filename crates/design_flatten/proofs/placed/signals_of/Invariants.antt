use Rattle.design_flatten.proofs.Vocabulary.{◌≡◌, [], map, take, place_of, becomes}
use Rattle.design_flatten.proofs.placed.signals_of.Given as goal

abbrev pub invariant-signals : goal.invariant-signals
invariant-signals l = l.found.items ≡ map (becomes (place_of l.given []) l.names) (take l.signal-index l.signals)
