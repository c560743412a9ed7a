use Rattle.map_network.proofs.Vocabulary.{◌≡◌, map, take, Want}
use Rattle.map_network.proofs.trees.sources_of.Given as goal

abbrev pub invariant-wants : goal.invariant-wants
invariant-wants l = l.ins ≡ map (λ (w : Want). w.source) (take l.k l.wants)
