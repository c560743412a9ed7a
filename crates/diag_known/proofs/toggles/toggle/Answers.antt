use Rattle.diag_known.proofs.Settling.{if_ok_so, kept_cross}
use Rattle.diag_known.proofs.toggles.toggle.Goals as goal

pub returns-clause-kept : goal.returns-clause-kept
returns-clause-kept g c =
    if_ok_so c.toggle_cross-answer.result c.toggle_cross-answer.ensures.gains (λ yes gains is. rw (c.give_back_drive.ensures, c.give_back.ensures) (kept_cross c.args.c.0 (gains is)))
