use Rattle.diag_evidence.proofs.Vocabulary.{◌≡◌, ◌<◌, ◌∙◌, ap, arith, Result, Ok, Err, OnOk, is_ok, true, with_closed, closed_again}
use Rattle.diag_evidence.proofs.toggles.read_without.Goals as goal

of_ok : {T E P : Type 0} (r : Result T E) → is_ok r ≡ true → OnOk r P → P
of_ok (Ok x) is p = p
of_ok (Err e) is p = cc

pub returns-clause-config : goal.returns-clause-config
returns-clause-config g c =
    let room : 0 < c.open_cross.new.self.spare = omega (arith, c.open_cross.ensures.back c.requires.closed) in
    of_ok c.close_cross.result (c.close_cross.ensures.succeeds room) c.close_cross.ensures.closed
    ∙ ap (λ h. with_closed h c.args.c.0) c.open_cross.ensures.open ∙ closed_again _ _ c.requires.closed
