use Rattle.machine_image.proofs.Vocabulary.{◌≡◌, ◌++◌, [], ◌∷◌, if◌then◌else◌, flat_map, range_with_len, is_closed, four}
use Rattle.machine_image.proofs.write.put_closed.Given as goal

abbrev pub invariant-crosses : goal.invariant-crosses
invariant-crosses l = l.out.items ≡ l.initial.out.items ++ flat_map four (flat_map (λ x. if is_closed l.config.config x then x ∷ [] else []) (range_with_len 0 l.x))
