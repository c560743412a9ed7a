use Rattle.map_network.proofs.Vocabulary.{◌≡◌, map, take, PortDef, source_in}
use Rattle.map_network.proofs.build.outputs_of.Given as goal

abbrev pub invariant-outputs : goal.invariant-outputs
invariant-outputs l = l.given.items ≡ map (λ (p : PortDef). source_in l.sources p.signal) (take l.k l.outputs)
