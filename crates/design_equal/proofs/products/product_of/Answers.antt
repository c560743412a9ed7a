use Rattle.design_equal.proofs.Vocabulary.{◌≡◌, ◌&&◌, Bool, false, take, get_or, sym, ap, ◌∙◌, arith, literal_in, holds}
use Rattle.design_equal.proofs.ProductLemmas.{never}
use Rattle.design_equal.proofs.products.product_of.Goals as goal

pub returns-then-not-branch : goal.returns-then-not-branch
returns-then-not-branch c = λ bits zero.
    let list = c.sorted-list.result.items in
    let literal = c.index.result.now in
    let fails : (holds bits (take c.literals.k c.sorted-list.result.items) && literal_in bits (get_or c.sorted-list.result.items c.literals.k c.index.result.now)) ≡ false =
    ap (λ l. holds bits (take c.literals.k c.sorted-list.result.items) && literal_in bits l) (sym c.index.ensures)
    ∙ ap (λ (b : Bool). b && literal_in bits c.index.result.now) (sym (c.literals.invariant bits zero))
    ∙ sym (c.in_ok-add_literal.ensures bits zero)
    ∙ ap (λ (b : Bool). b && holds bits c.add_literal.new.product.items) c.if-not-branch.true in
    sym (never bits c.sorted-list.result.items c.literals.k c.index.result.now (omega (arith, c.literals-test.true, c.len-k-end.ensures, c.sorted-list.result.ok.0)) fails)
    ∙ c.sorted-list.ensures bits
