use Rattle.map_network.proofs.Vocabulary.{◌≡◌, ◌+◌, ◌∙◌, ap, sym, true, false, length, nat_lt, distinct, is_narrow, rows_size, tree_size}
use Rattle.map_network.proofs.PlainLemmas.{narrow_size, wide_size}
use Rattle.map_network.proofs.names.size_of.Goals as goal

pub returns-then-branch : goal.returns-then-branch
returns-then-branch c =
    let e : is_narrow c.args.cover.now ≡ true = sym ((c.in_ok-is_narrow.ensures {u = tt}) ∙ ap (λ xs. nat_lt (length (distinct xs)) 7) c.as_slice.ensures) ∙ c.if-branch.true in
    sym (narrow_size c.args.cover.now e)

pub returns-else-branch : goal.returns-else-branch
returns-else-branch c =
    let e : is_narrow c.args.cover.now ≡ false = sym ((c.in_ok-is_narrow.ensures {u = tt}) ∙ ap (λ xs. nat_lt (length (distinct xs)) 7) c.as_slice.ensures) ∙ c.if-branch.false in
    c.wide_size.ensures ∙ ap (λ xs. rows_size xs + tree_size (length xs)) c.as_slice-else-branch.ensures ∙ sym (wide_size c.args.cover.now c.requires.rows e)
