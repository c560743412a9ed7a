use Rattle.design_flatten.proofs.Vocabulary.{◌≡◌, map, drop, get_or, [], first_missing}
use Rattle.design_flatten.proofs.formals.first_missing.Given as goal

abbrev pub invariant-inputs : goal.invariant-inputs
invariant-inputs l = first_missing l.given (map (λ p. get_or l.names p.signal []) (drop l.port-index l.inputs)) ≡ first_missing l.given (map (λ p. get_or l.names p.signal []) l.inputs)
