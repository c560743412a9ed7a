use Rattle.machine_image.proofs.Vocabulary.{◌≡◌, ◌++◌, flat_map, range_with_len, setting_of, table_bytes, on_at}
use Rattle.machine_image.proofs.write.put_tables.Given as goal

abbrev pub invariant-tables : goal.invariant-tables
invariant-tables l = l.out.items ≡ l.initial.out.items ++ flat_map table_bytes (flat_map (λ t. on_at t (setting_of l.config.config t)) (range_with_len 0 l.t))
