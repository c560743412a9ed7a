use Rattle.diag_evidence.proofs.Vocabulary.{◌≡◌, true, not, get_or, sym, ap, ◌∙◌, arith, differ}
use Rattle.diag_evidence.proofs.Rows.{same_at, shown_at, not_yet}
use Rattle.diag_evidence.proofs.looks.reads_bit.Goals as goal

pub returns-then-get-bit : goal.returns-then-get-bit
returns-then-get-bit c = sym (shown_at c.args.rows.now c.rows.k c.index-rows-k.result c.rows-test.true c.index-rows-k.is (λ row. not (differ (get_or row c.args.pin true) c.args.bit))
    (same_at c.index-rows-k.result c.args.pin _ c.args.bit c.get.ensures ∙ c.if-get-bit.true))

pub rows-preserved : goal.rows-preserved
rows-preserved c = not_yet c.args.rows.now c.rows.k c.index-rows-k.result c.rows-test.true c.index-rows-k.is (λ row. not (differ (get_or row c.args.pin true) c.args.bit)) c.rows.invariant
    (same_at c.index-rows-k.result c.args.pin _ c.args.bit c.get.ensures ∙ c.if-get-bit.false)
