use Rattle.machine_image.proofs.Vocabulary.{◌++◌, length, ap, ◌∙◌, flat_map, two, four, table_bytes, tables_on, closed_in}
use Rattle.machine_image.proofs.Written.{both_put}
use Rattle.machine_image.proofs.write.put_settings.Goals as goal

pub returns : goal.returns
returns c =
    let g = c.args.config.now.config in
    let end = c.put_closed.new.out.items in
    both_put c.args.out.now.items c.put2.new.out.items end (two (length (tables_on g))) (flat_map table_bytes (tables_on g) ++ (four (length (closed_in g)) ++ flat_map four (closed_in g)))
    (c.in_ok-put2.ensures ∙ ap (λ n. c.args.out.now.items ++ two n) c.count_tables-tables.ensures)
    (both_put c.put2.new.out.items c.put_tables.new.out.items end (flat_map table_bytes (tables_on g)) (four (length (closed_in g)) ++ flat_map four (closed_in g)) c.in_ok-put_tables.ensures
    (both_put c.put_tables.new.out.items c.put4.new.out.items end (four (length (closed_in g))) (flat_map four (closed_in g))
    (c.in_ok-put4.ensures ∙ ap (λ n. c.put_tables.new.out.items ++ four n) c.count_closed-closed.ensures) c.in_ok-put_closed.ensures))
