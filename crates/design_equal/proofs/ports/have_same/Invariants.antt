use Rattle.design_equal.proofs.Vocabulary.{◌≡◌, map, take, label_at}
use Rattle.design_equal.proofs.ports.have_same.Given as goal

abbrev pub invariant-outputs : goal.invariant-outputs
invariant-outputs l = map (λ p. label_at l.first_labels p.signal) (take l.k l.first) ≡ map (λ p. label_at l.second_labels p.signal) (take l.k l.second)
