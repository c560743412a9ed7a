use Rattle.design_flatten.proofs.Vocabulary.{◌≡◌, map, take, flat_map, uses_in, use_in}
use Rattle.design_flatten.proofs.uses.uses_of.Given as goal

abbrev pub invariant-models : goal.invariant-models
invariant-models l = map use_in l.uses.items ≡ flat_map uses_in (take l.model-index l.models)
