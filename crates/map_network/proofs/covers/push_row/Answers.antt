use Rattle.map_network.proofs.Vocabulary.{◌≡◌, ◌+◌, ◌∙◌, ap, length, false, arith, length-append, tree, tree_size}
use Rattle.map_network.specs.declared.want.Gate.TheVariants.{All}
use Rattle.map_network.proofs.TreeLemmas.{length-tree, tree_size_some}
use Rattle.map_network.proofs.covers.push_row.Goals as goal

pub overflow_sub-len : goal.overflow_sub-len
overflow_sub-len c =
    let e : length c.push_tree.new.tables.items ≡ length c.args.tables.now.items + tree_size (length c.args.wants.now.items) = ap length (c.in_ok-push_tree.ensures {u = tt}) ∙ length-append c.args.tables.now.items (tree All false (length c.args.tables.now.items) c.args.wants.now.items) ∙ ap (λ n. length c.args.tables.now.items + n) (length-tree All false (length c.args.tables.now.items) c.args.wants.now.items) in
    let s = tree_size_some (length c.args.wants.now.items) in
    omega arith

pub want_table-requires : goal.want_table-requires
want_table-requires c =
    let e : length c.push_tree.new.tables.items ≡ length c.args.tables.now.items + tree_size (length c.args.wants.now.items) = ap length (c.in_ok-push_tree.ensures {u = tt}) ∙ length-append c.args.tables.now.items (tree All false (length c.args.tables.now.items) c.args.wants.now.items) ∙ ap (λ n. length c.args.tables.now.items + n) (length-tree All false (length c.args.tables.now.items) c.args.wants.now.items) in
    let r = c.requires in
    omega arith
