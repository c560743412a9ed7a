use Rattle.diag_evidence.proofs.Vocabulary.{◌≡◌, true, get_or, sym, ap, ◌∙◌, arith, differ}
use Rattle.diag_evidence.proofs.Rows.{differ_at, shown_at, not_yet}
use Rattle.diag_evidence.proofs.looks.parts.Goals as goal

pub returns-then-get : goal.returns-then-get
returns-then-get c = sym (shown_at c.args.rows.now c.rows.k c.index-rows-k.result c.rows-test.true c.index-rows-k.is (λ row. differ (get_or row c.args.a true) (get_or row c.args.b true))
    (differ_at c.index-rows-k.result c.args.a c.args.b _ _ c.get.ensures c.get-in-rows.ensures ∙ c.if-get.true))

pub rows-preserved : goal.rows-preserved
rows-preserved c = not_yet c.args.rows.now c.rows.k c.index-rows-k.result c.rows-test.true c.index-rows-k.is (λ row. differ (get_or row c.args.a true) (get_or row c.args.b true)) c.rows.invariant
    (differ_at c.index-rows-k.result c.args.a c.args.b _ _ c.get.ensures c.get-in-rows.ensures ∙ c.if-get.false)
