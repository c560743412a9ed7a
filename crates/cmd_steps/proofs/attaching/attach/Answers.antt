use Rattle.cmd_steps.proofs.Vocabulary.{inr, err_from_is_err_and}
use Rattle.rig.proofs.Narrowing.{tells_attach}
use Rattle.cmd_steps.proofs.AttachLemmas.{attach-asks, attach-took, attach-taken, none-made}
use Rattle.cmd_steps.proofs.Logs.{log_asked}
use Rattle.cmd_steps.proofs.attaching.attach.Goals as goal

pub returns-clause-unused : goal.returns-clause-unused
returns-clause-unused g c = let e = c.in_ok-attach_boxed.ensures.attached in none-made _ e.session e.past

pub returns-in_err-attach_boxed-clause-unused : goal.returns-in_err-attach_boxed-clause-unused
returns-in_err-attach_boxed-clause-unused g c = let e = c.in_err-attach_boxed.ensures.detached in none-made _ e.session e.past

pub returns-clause-asked : goal.returns-clause-asked
returns-clause-asked g c = inr c.in_ok-attach_boxed.ensures.attached.asked

pub returns-in_err-attach_boxed-clause-asked : goal.returns-in_err-attach_boxed-clause-asked
returns-in_err-attach_boxed-clause-asked g c = attach-asks _ _ _ _ c.in_err-attach_boxed.ensures.refused

pub returns-clause-took : goal.returns-clause-took
returns-clause-took g c =
    let e = c.in_ok-attach_boxed.ensures in
    λ store sink. attach-took _ _ _ store sink e.texts e.later (log_asked _ e.attached.asked (λ some. tells_attach e.attached)) e.attached.attached

pub returns-in_err-attach_boxed-clause-took : goal.returns-in_err-attach_boxed-clause-took
returns-in_err-attach_boxed-clause-took g c =
    let p = err_from_is_err_and c.from_residual.result c.from_residual.ensures.1 in
    let e = c.in_err-attach_boxed.ensures in
    λ store sink. rw (p.1, p.2) (attach-taken _ _ _ store sink _ e.texts e.later e.detached e.refused)
