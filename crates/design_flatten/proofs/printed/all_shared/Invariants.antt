use Rattle.design_flatten.proofs.Vocabulary.{◌≡◌, List, map, take, Model, first_model, AreAllOrigins, shared_as}
use Rattle.design_flatten.proofs.printed.all_shared.Given as goal

abbrev pub invariant-signals : goal.invariant-signals
invariant-signals l = (models : List Model) → AreAllOrigins models l.origins → l.first ≡ (first_model models).names → l.all.items ≡ map (shared_as models) (take l.signal-index l.signals)
