use Rattle.machine_image.proofs.Vocabulary.{◌≡◌, ◌≤◌, length, flat_map, range_with_len, setting_of, on_at}
use Rattle.machine_image.proofs.write.count_tables.Given as goal

abbrev pub invariant-tables : goal.invariant-tables
invariant-tables l = (l.count ≡ length (flat_map (λ t. on_at t (setting_of l.config.config t)) (range_with_len 0 l.t))) × (l.count ≤ l.t)
