use Rattle.machine_image.proofs.Vocabulary.{◌≡◌, ◌≤◌, [], ◌∷◌, length, if◌then◌else◌, flat_map, range_with_len, is_closed}
use Rattle.machine_image.proofs.write.count_closed.Given as goal

abbrev pub invariant-crosses : goal.invariant-crosses
invariant-crosses l = (l.count ≡ length (flat_map (λ x. if is_closed l.config.config x then x ∷ [] else []) (range_with_len 0 l.x))) × (l.count ≤ l.x)
