use Rattle.map_network.proofs.Vocabulary.{◌≡◌, ◌∙◌, sym, subst, arith, get_or_default, no_cover, cover_at}
use Rattle.map_network.proofs.PlainLemmas.{AreRowsOf, size_some}
use Rattle.map_network.proofs.drives.put_covers.Goals as goal

pub overflow_sub-first : goal.overflow_sub-first
overflow_sub-first c =
    let at : cover_at c.args.covers.now c.covers.k ≡ c.index-covers-k.result = sym (c.index-covers-k.is ∙ get_or_default c.args.covers.now c.covers.k c.index-covers-k.result no_cover c.covers-test.true) in
    let rows : AreRowsOf c.index-covers-k.result = subst (λ x. AreRowsOf x) at (c.requires.made c.covers.k c.covers-test.true).rows in
    let s = size_some c.index-covers-k.result rows in
    omega (arith, c.in_ok-first.ensures {u = tt})
