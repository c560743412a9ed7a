use Rattle.diag_evidence.proofs.Vocabulary.{true, get_or, ◌∙◌, differ}
use Rattle.diag_evidence.proofs.Rows.{differ_at, shown_at}
use Rattle.diag_evidence.proofs.looks.parts_in.Goals as goal

pub returns : goal.returns
returns c = λ yes. shown_at c.args.rows.now c.args.at c.index-rows-at.result c.requires.at c.index-rows-at.is (λ row. differ (get_or row c.args.a true) (get_or row c.args.b true))
    (differ_at c.index-rows-at.result c.args.a c.args.b _ _ c.get.ensures c.get-2.ensures ∙ yes)
