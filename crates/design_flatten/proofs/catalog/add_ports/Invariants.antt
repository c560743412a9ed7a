use Rattle.design_flatten.proofs.Vocabulary.{◌≡◌, map, take, [], get_or, with_names}
use Rattle.design_flatten.proofs.catalog.add_ports.Given as goal

abbrev pub invariant-ports : goal.invariant-ports
invariant-ports l = l.set ≡ with_names l.fn.set (map (λ p. get_or l.names p.signal []) (take l.port-index l.ports))
