use Rattle.rig_port.proofs.Vocabulary.{◌∙◌, ap, after, counts_line, counts_body}
use Rattle.rig_port.proofs.Answered.{attach_told, attach_fits}
use Rattle.rig_port.proofs.rig_port.answer.Goals as goal

pub returns-in-Some-clause-told : goal.returns-in-Some-clause-told
returns-in-Some-clause-told g c =
    let asked = c.in-Some.asked in
    let n = asked.number in
    let m = c.args.set.now.config.shape in
    attach_told m c.args.standing.check c.in_ok-counted.counted n c.args.request.now c.answer_attach.new.line.items c.args.set.now.config c.args.standing.running
    (g.R.Rig.rig_state c.args.inner.now) c.answer_attach.new.set.config c.in-Some.ensures.0 c.in-Some.ensures.1
    (c.in_ok-counted.ensures.line.0 ∙ ap (λ k. counts_line k n m.counts) c.in-Some.ensures.2)
    (c.in_ok-counted.ensures.line.1 ∙ ap (λ k. after k (counts_body n m.counts)) c.in-Some.ensures.2)
    c.answer_attach.ensures.cleared

pub returns-in-Some-clause-fits : goal.returns-in-Some-clause-fits
returns-in-Some-clause-fits g c =
    attach_fits c.args.set.now.config.shape c.args.standing.check c.in-Some.asked.check c.in-Some.asked.number c.args.request.now c.answer_attach.new.line.items c.args.standing.room
    c.in-Some.ensures.0 c.in-Some.ensures.1 c.in_ok-counted.ensures.line.0 c.in_ok-counted.ensures.room

pub returns-in_err-left-clause-short : goal.returns-in_err-left-clause-short
returns-in_err-left-clause-short g c = rw c.in_ok-check.ensures.0 (c.answer_spelled.ensures.short c.args.standing.check)

pub returns-clause-told : goal.returns-clause-told
returns-clause-told g c = rw c.in_ok-check.ensures.0 (c.in_ok-left.ensures.told c.args.standing.check c.in_ok-check.ensures.1)

pub returns-clause-short : goal.returns-clause-short
returns-clause-short g c = rw c.in_ok-check.ensures.0 (c.answer_spelled.ensures.short c.args.standing.check)

pub returns-clause-fits : goal.returns-clause-fits
returns-clause-fits g c = rw c.in_ok-check.ensures.0 (c.in_ok-left.ensures.fits c.args.standing.check)
