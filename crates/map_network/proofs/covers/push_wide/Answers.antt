use Rattle.map_network.proofs.Vocabulary.{◌≡◌, ◌+◌, ◌∙◌, ap, length, arith, length-append}
use Rattle.map_network.specs.Vocabulary.{trees, rows_wants, tree_size, rows_size, source_in}
use Rattle.map_network.proofs.PlainLemmas.{length-rows, length-ends}
use Rattle.map_network.proofs.covers.push_wide.Goals as goal

pub push_tree-requires : goal.push_tree-requires
push_tree-requires c =
    let n : length c.push_rows.new.tables.items ≡ length c.args.tables.now.items + rows_size c.args.cover.now.rows = ap length c.in_ok-push_rows.ensures.tables ∙ length-append c.args.tables.now.items (trees (length c.args.tables.now.items) (rows_wants (source_in c.args.sources.now) c.args.cover.now)) ∙ ap (λ m. length c.args.tables.now.items + m) (length-rows (source_in c.args.sources.now) (length c.args.tables.now.items) c.args.cover.now c.requires.made.rows) in
    let e : tree_size (length c.push_rows.new.ends.items) ≡ tree_size (length c.args.cover.now.rows) = ap (λ xs. tree_size (length xs)) c.in_ok-push_rows.ensures.ends ∙ ap tree_size (length-ends (source_in c.args.sources.now) (length c.args.tables.now.items) c.args.cover.now) in
    let r = c.requires.room in
    omega arith
