use Rattle.std.proofs.Common.{◌||◌, Bool, List, [], ap, sym, ◌∙◌, add-one, map, take}
use Rattle.design_equal.proofs.Vocabulary.{get_or_default, matches, some_matches, some-more, signal_bits, found_holds}
use Rattle.design_netlist.specs.declared.netlist_data.Lit.{Lit}
use Rattle.design_equal.proofs.products.rows_sum.Goals as goal

pub rows-preserved : goal.rows-preserved
rows-preserved c = λ bits zero.
    let given : List Bool = map (signal_bits bits c.args.labels.now) c.args.ins.now in
    let row = c.as_slice.ensures ∙ c.index-rows-k.is ∙ get_or_default c.args.rows.now c.rows.k c.index-rows-k.result [] c.rows-test.true in
    c.in_ok-add_product.ensures bits
    ∙ ap (λ (b : Bool). b || found_holds bits c.in_ok-found.found) (c.rows.invariant bits zero)
    ∙ ap (λ (b : Bool). some_matches (take c.rows.k c.args.rows.now) given || b)
    (c.in_ok-found.ensures bits zero ∙ c.in_ok-list.ensures bits ∙ ap (λ (r : List Lit). matches r given) row)
    ∙ rw add-one (sym (some-more c.args.rows.now given c.rows.k c.rows-test.true))
