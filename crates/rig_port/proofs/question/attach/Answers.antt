use Rattle.rig_port.proofs.Vocabulary.{◌≡◌, ◌∙◌, take, length, sym, ap, arith, refl, and_said}
use Rattle.rig_port.proofs.{Alarm.right_counts, Alarm.for_any, Alarm.rose_of, Telling.attach_stands, Telling.attach_stood, Telling.stood_on}
use Rattle.rig_port.proofs.{Behind.behind_one, Behind.said_maybe, Behind.said_alone, OneMachine.attached, OneMachine.attached_check}
use Rattle.rig_port.proofs.{Held.seam, Standing.found_one}
use Rattle.rig_port.specs.Requests.{sends_attach}
use Rattle.rig_port.proofs.question.attach.Goals as goal

pub returns-in-Ok-clause-fresh : goal.returns-in-Ok-clause-fresh
returns-in-Ok-clause-fresh g c = λ right.
    let whole = seam c.ask.new.reply c.args.link.now.reply.items c.args.link.now.reply.len (c.ask.ensures.length ∙ ap length c.deref_mut.ensures.value) c.args.link.now.reply.ok.0 in
    let same : take c.in-Ok.count c.ask.new.reply ≡ c.args.link.now.expected.items
    = ap (λ l. take c.in-Ok.count l) (sym whole) ∙ c.take_counts.ensures.right right in
    attached (g.P.Port.port_state c.args.port.now).device (g.P.Port.port_state c.ask.new.self).device (g.P.Port.port_state c.args.port.now).check
    (g.P.Port.port_state c.ask.new.self).check c.args.number c.args.question.now (take c.in-Ok.count c.ask.new.reply)
    c.args.link.now.expected.items c.args.link.now.set.config.shape c.in-Ok.ensures.told (omega arith) c.requires.line same c.requires.expected
    c.requires.counts c.requires.told

pub returns-in-Ok-clause-check : goal.returns-in-Ok-clause-check
returns-in-Ok-clause-check g c = λ right some.
    let whole = seam c.ask.new.reply c.args.link.now.reply.items c.args.link.now.reply.len (c.ask.ensures.length ∙ ap length c.deref_mut.ensures.value) c.args.link.now.reply.ok.0 in
    let same : take c.in-Ok.count c.ask.new.reply ≡ c.args.link.now.expected.items
    = ap (λ l. take c.in-Ok.count l) (sym whole) ∙ c.take_counts.ensures.right right in
    attached_check (g.P.Port.port_state c.args.port.now).device (g.P.Port.port_state c.ask.new.self).device (g.P.Port.port_state c.args.port.now).check
    (g.P.Port.port_state c.ask.new.self).check c.args.link.now.check c.args.number c.args.question.now (take c.in-Ok.count c.ask.new.reply)
    c.args.link.now.expected.items c.args.link.now.set.config.shape c.in-Ok.ensures.told (omega arith) c.requires.line same c.requires.expected
    c.requires.counts c.requires.told c.requires.check some ∙ sym c.take_counts.ensures.check

pub returns-in-Ok-clause-alarm : goal.returns-in-Ok-clause-alarm
returns-in-Ok-clause-alarm g c = λ wrong.
    let whole = seam c.ask.new.reply c.args.link.now.reply.items c.args.link.now.reply.len (c.ask.ensures.length ∙ ap length c.deref_mut.ensures.value) c.args.link.now.reply.ok.0 in
    right_counts (g.P.Port.port_state c.args.port.now).device (g.P.Port.port_state c.ask.new.self).device (g.P.Port.port_state c.args.port.now).check
    (g.P.Port.port_state c.ask.new.self).check c.args.number c.args.question.now (take c.in-Ok.count c.ask.new.reply)
    c.args.link.now.expected.items c.args.link.now.set.config.shape _ c.in-Ok.ensures.told (omega arith) c.requires.line c.requires.expected
    (λ is. c.take_counts.ensures.wrong wrong (ap (λ l. take c.in-Ok.count l) whole ∙ is))

pub returns-in-Ok-clause-talks : goal.returns-in-Ok-clause-talks
returns-in-Ok-clause-talks g c =
    let whole = seam c.ask.new.reply c.args.link.now.reply.items c.args.link.now.reply.len (c.ask.ensures.length ∙ ap length c.deref_mut.ensures.value) c.args.link.now.reply.ok.0 in
    said_maybe c.take_counts.result c.args.link.now.set.config.shape c.args.link.now.talk c.take_counts.new.link.talk (g.P.Port.port_state c.args.port.now).talk (g.P.Port.port_state c.ask.new.self).talk c.args.question.now
    (take c.in-Ok.count c.ask.new.reply) c.args.link.now.expected.items (sends_attach c.args.number (omega arith) c.requires.line)
    (λ right. ap (λ l. take c.in-Ok.count l) (sym whole) ∙ c.take_counts.ensures.right right) c.take_counts.ensures.taken c.take_counts.ensures.left c.in-Ok.ensures.said

pub returns-in-Ok-clause-said : goal.returns-in-Ok-clause-said
returns-in-Ok-clause-said g c = λ right.
    behind_one _ c.args.link.now.talk c.take_counts.new.link.talk c.args.question.now c.args.link.now.expected.items (c.take_counts.ensures.taken right)
    (λ d b e k a. found_one c.args.link.now.set.config.shape c.args.number c.take_counts.new.link c.args.question.now c.args.link.now.expected.items (omega arith) c.requires.line
    (c.take_counts.ensures.check ∙ c.requires.check) d b e k a)

pub returns-in-Err-clause-talks : goal.returns-in-Err-clause-talks
returns-in-Err-clause-talks g c =
    said_alone c.args.link.now.set.config.shape c.args.link.now.talk c.args.link.now.talk (g.P.Port.port_state c.args.port.now).talk (g.P.Port.port_state c.ask.new.self).talk c.args.question.now
    (sends_attach c.args.number (omega arith) c.requires.line) refl c.in-Err.ensures.unsaid

pub returns-in-Err-clause-alarm : goal.returns-in-Err-clause-alarm
returns-in-Err-clause-alarm g c = λ _.
    for_any (g.P.Port.port_state c.ask.new.self).device c.args.link.now.set.config.shape _
    (rose_of c.in-Err.field-0 (g.P.Port.port_state c.args.port.now) (g.P.Port.port_state c.ask.new.self) c.in-Err.ensures.refused)

pub returns-in-Ok-clause-stands : goal.returns-in-Ok-clause-stands
returns-in-Ok-clause-stands g c = λ right stood.
    let whole = seam c.ask.new.reply c.args.link.now.reply.items c.args.link.now.reply.len (c.ask.ensures.length ∙ ap length c.deref_mut.ensures.value) c.args.link.now.reply.ok.0 in
    let same : take c.in-Ok.count c.ask.new.reply ≡ c.args.link.now.expected.items
    = ap (λ l. take c.in-Ok.count l) (sym whole) ∙ c.take_counts.ensures.right right in
    attach_stands (g.P.Port.port_state c.args.port.now) (g.P.Port.port_state c.ask.new.self) c.args.number c.args.link.now.talk c.take_counts.new.link.talk c.args.question.now (take c.in-Ok.count c.ask.new.reply)
    (omega arith) c.requires.line (c.take_counts.ensures.taken right ∙ ap (and_said c.args.link.now.talk c.args.question.now) (sym same)) c.in-Ok.ensures.told stood

pub returns-in-Ok-clause-stood : goal.returns-in-Ok-clause-stood
returns-in-Ok-clause-stood g c = λ stood.
    let whole = seam c.ask.new.reply c.args.link.now.reply.items c.args.link.now.reply.len (c.ask.ensures.length ∙ ap length c.deref_mut.ensures.value) c.args.link.now.reply.ok.0 in
    attach_stood c.take_counts.result (g.P.Port.port_state c.args.port.now) (g.P.Port.port_state c.ask.new.self) c.args.number c.args.link.now.talk c.take_counts.new.link.talk c.args.question.now
    (take c.in-Ok.count c.ask.new.reply) c.args.link.now.expected.items (omega arith) c.requires.line
    (λ right. ap (λ l. take c.in-Ok.count l) (sym whole) ∙ c.take_counts.ensures.right right) c.take_counts.ensures.taken c.take_counts.ensures.left c.ask.ensures.machine c.in-Ok.ensures.told stood

pub returns-in-Err-clause-stood : goal.returns-in-Err-clause-stood
returns-in-Err-clause-stood g c = λ stood. stood_on (g.P.Port.port_state c.args.port.now) (g.P.Port.port_state c.ask.new.self) c.args.link.now.talk c.args.link.now.talk c.ask.ensures.machine refl stood
