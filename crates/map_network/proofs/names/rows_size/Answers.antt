use Rattle.std.proofs.Common.{◌≡◌, ◌+◌, ◌∙◌, ap, sym, get_or, arith}
use Rattle.map_network.proofs.Vocabulary.{sum_by_more, sum_by-take-le, row_characters, tree_size, row_size, wants_in}
use Rattle.map_network.proofs.NameLemmas.{row_size_few, wants_few}
use Rattle.map_network.proofs.names.rows_size.Goals as goal

pub tree_size-size-requires : goal.tree_size-size-requires
tree_size-size-requires c =
    let e : c.wants_in.result ≡ wants_in c.index-rows-k.result = c.wants_in.ensures ∙ ap wants_in c.as_slice.ensures in
    let f : row_characters (get_or c.args.rows.now c.rows.k c.index-rows-k.result) ≡ row_characters c.index-rows-k.result = ap row_characters (sym c.index-rows-k.is) in
    let m = sum_by_more row_characters c.args.rows.now c.rows.k c.index-rows-k.result c.rows-test.true in
    let l = sum_by-take-le row_characters c.args.rows.now (c.rows.k + 1) in
    let w = wants_few c.index-rows-k.result in
    let r = c.requires in
    omega arith

pub overflow_add-size : goal.overflow_add-size
overflow_add-size c =
    let e : c.tree_size-size.result ≡ row_size c.index-rows-k.result = c.tree_size-size.ensures ∙ ap tree_size (c.wants_in.ensures ∙ ap wants_in c.as_slice.ensures) in
    let f : row_characters (get_or c.args.rows.now c.rows.k c.index-rows-k.result) ≡ row_characters c.index-rows-k.result = ap row_characters (sym c.index-rows-k.is) in
    let m = sum_by_more row_characters c.args.rows.now c.rows.k c.index-rows-k.result c.rows-test.true in
    let l = sum_by-take-le row_characters c.args.rows.now (c.rows.k + 1) in
    let w = row_size_few c.index-rows-k.result in
    let r = c.requires in
    let i = c.rows.invariant.1 in
    omega arith

pub rows-preserved : goal.rows-preserved
rows-preserved c =
    let e : c.tree_size-size.result ≡ row_size c.index-rows-k.result = c.tree_size-size.ensures ∙ ap tree_size (c.wants_in.ensures ∙ ap wants_in c.as_slice.ensures) in
    let f : row_characters (get_or c.args.rows.now c.rows.k c.index-rows-k.result) ≡ row_characters c.index-rows-k.result = ap row_characters (sym c.index-rows-k.is) in
    let g : row_size (get_or c.args.rows.now c.rows.k c.index-rows-k.result) ≡ row_size c.index-rows-k.result = ap row_size (sym c.index-rows-k.is) in
    let m = sum_by_more row_characters c.args.rows.now c.rows.k c.index-rows-k.result c.rows-test.true in
    let s = sum_by_more row_size c.args.rows.now c.rows.k c.index-rows-k.result c.rows-test.true in
    let w = row_size_few c.index-rows-k.result in
    let i = c.rows.invariant.0 in
    let j = c.rows.invariant.1 in
    (omega arith, omega arith)
