use Rattle.map_network.proofs.Vocabulary.{length, arith, sum_by-le-sum_by, row_characters, row_size}
use Rattle.map_network.proofs.{TreeLemmas.tree_size_few, NameLemmas.row_size_few, PlainLemmas.rows_few}
use Rattle.map_network.proofs.names.wide_size.Goals as goal

pub tree_size-requires : goal.tree_size-requires
tree_size-requires c = let r = rows_few c.args.rows.now in let q = c.requires in omega arith

pub overflow_add-result : goal.overflow_add-result
overflow_add-result c =
    let r = rows_few c.args.rows.now in
    let q = c.requires in
    let s = sum_by-le-sum_by row_size row_characters c.args.rows.now row_size_few in
    let t = tree_size_few (length c.args.rows.now) in
    omega (arith, c.rows_size.ensures, c.tree_size.ensures)
