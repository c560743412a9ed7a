use Rattle.std.proofs.Common.{arith, ◌≡◌, ◌∙◌, [], true, false, refl, sym, ap, length, take, subst, Option, Some}
use Rattle.rig_port.proofs.Vocabulary.{length-map, pins_of, lengths_kept, Device, WhereTold, Check, Answers, and_said, after, IsLinked}
use Rattle.rig_port.proofs.{Behind.behind_one, Behind.said_alone, Behind.said_one, Behind.said_wrong, Forms.sent_form, Room.same_room}
use Rattle.rig_port.proofs.turn.turn.Given.{Over}
use Rattle.rig_port.specs.Lines.{reading_body, reading_line}
use Rattle.rig_port.proofs.{Alarm.IsAsked, Alarm.own_answers, Alarm.right_reply, Alarm.keep_of, Turned.StandsTurned, Turned.turn_stands}
use Rattle.rig_port.proofs.{Held.seam, Telling.answer_stands, Telling.stood_of, Telling.stood_on}
use Rattle.rig_port.proofs.turn.turn.Goals as goal

module _ (g : Over) (c : goal.After-link-4-1 g) where
  many : length c.args.reads.now ≡ length c.read_all.new.reads
  many = sym (length-map c.args.reads.now length) ∙ ap length (sym c.read_all.ensures.lengths) ∙ length-map c.read_all.new.reads length

  asked : IsAsked c.args.link.now.check c.args.link.now.set.config c.args.link.now.anew c.args.link.now.due c.args.link.now.line.items c.deref.result.now c.args.drives.now
      c.put_request-sent.result
  asked = record {
    wide = c.requires.ready.wide;
    some = c.requires.some;
    loads = λ due. let r = c.put_request-sent.ensures.loads due in record { line_is = c.deref.ensures.value ∙ r.line_is; check = r.check };
    goes = λ due none. let r = c.put_request-sent.ensures.drives due none in record { line_is = c.deref.ensures.value ∙ r.line_is; check = r.check };
  }

  whole : c.deref-3.result.now ≡ c.ask.new.reply
  whole = c.deref-3.ensures.value ∙ seam c.ask.new.reply c.args.link.now.reply.items c.args.link.now.reply.len (c.ask.ensures.length ∙ ap length c.deref_mut.ensures.value) c.args.link.now.reply.ok.0

  reply_is : take c.in-Ok.count c.ask.new.reply ≡ reading_line c.put_request-sent.result c.read_all.new.reads
  reply_is = ap (λ l. take c.in-Ok.count l) (sym whole) ∙ c.in-Some.ensures.right.0

  stands : (old new : Option Device) (now : Check) → IsLinked old c.args.link.now.set.config c.args.link.now.line.items c.args.link.now.anew c.args.link.now.running c.args.link.now.due
      → WhereTold (λ d e. Answers d c.args.link.now.check c.deref.result.now (take c.in-Ok.count c.ask.new.reply) e now) old new
      → StandsTurned now (after c.put_request-sent.result (reading_body c.read_all.new.reads)) c.args.link.now.set.config c.args.drives.now c.read_all.new.reads c.args.link.now.due old new
  stands old new now linked answers =
      turn_stands old new c.args.link.now.check now
      c.put_request-sent.result c.args.link.now.set.config c.args.link.now.anew c.args.link.now.running c.args.link.now.due c.args.link.now.line.items c.deref.result.now
      (take c.in-Ok.count c.ask.new.reply) c.args.drives.now c.read_all.new.reads linked asked (c.requires.rows.as_many ∙ many)
      (lengths_kept (λ l. l ≡ pins_of c.args.link.now.set.config.shape) c.args.reads.now c.read_all.new.reads c.read_all.ensures.lengths c.requires.rows.wide)
      reply_is c.requires.ready.running answers

  told : StandsTurned (g.P.Port.port_state c.ask.new.self).check (after c.put_request-sent.result (reading_body c.read_all.new.reads)) c.args.link.now.set.config c.args.drives.now
      c.read_all.new.reads c.args.link.now.due (g.P.Port.port_state c.args.port.now).device (g.P.Port.port_state c.ask.new.self).device
  told =
      stands (g.P.Port.port_state c.args.port.now).device (g.P.Port.port_state c.ask.new.self).device (g.P.Port.port_state c.ask.new.self).check c.requires.ready.linked
      (own_answers (g.P.Port.port_state c.args.port.now).device (g.P.Port.port_state c.ask.new.self).device (g.P.Port.port_state c.args.port.now).check c.args.link.now.check
      (g.P.Port.port_state c.ask.new.self).check c.deref.result.now (take c.in-Ok.count c.ask.new.reply) c.requires.ready.check c.in-Ok.ensures.told)

  -- the line that was sent, and the one that came, are what is taken
  talk_is : c.and-link.result ≡ and_said c.args.link.now.talk c.deref.result.now (take c.in-Ok.count c.ask.new.reply)
  talk_is =
      c.and-link.ensures ∙ ap (λ r. and_said c.args.link.now.talk r c.deref-5.result.now) (c.deref-4.ensures.value ∙ sym c.deref.ensures.value)
      ∙ ap (and_said c.args.link.now.talk c.deref.result.now) (c.deref-5.ensures.value ∙ sym c.in-Some.ensures.expected ∙ ap (λ l. take c.in-Ok.count l) whole)

pub returns-clause-talks : goal.returns-clause-talks
returns-clause-talks g c =
    said_one c.args.link.now.set.config.shape c.args.link.now.talk c.and-link.result (g.P.Port.port_state c.args.port.now).talk (g.P.Port.port_state c.ask.new.self).talk c.deref.result.now (take c.in-Ok.count c.ask.new.reply)
    (sent_form (g.P.Port.port_state c.args.port.now).device c.args.link.now.check c.put_request-sent.result c.args.link.now.set.config c.args.link.now.anew c.args.link.now.running
    c.args.link.now.due c.args.link.now.line.items c.deref.result.now c.args.drives.now c.requires.ready.linked (asked g c) c.requires.ready.running)
    (talk_is g c) c.in-Ok.ensures.said

pub returns-in_default-clause-talks : goal.returns-in_default-clause-talks
returns-in_default-clause-talks g c =
    said_alone c.args.link.now.set.config.shape c.args.link.now.talk c.args.link.now.talk (g.P.Port.port_state c.args.port.now).talk (g.P.Port.port_state c.ask.new.self).talk c.deref.result.now
    (sent_form (g.P.Port.port_state c.args.port.now).device c.args.link.now.check c.put_request-sent.result c.args.link.now.set.config c.args.link.now.anew c.args.link.now.running
    c.args.link.now.due c.args.link.now.line.items c.deref.result.now c.args.drives.now c.requires.ready.linked (record {
      wide = c.requires.ready.wide;
      some = c.requires.some;
      loads = λ due. let r = c.put_request-sent.ensures.loads due in record { line_is = c.deref.ensures.value ∙ r.line_is; check = r.check };
      goes = λ due none. let r = c.put_request-sent.ensures.drives due none in record { line_is = c.deref.ensures.value ∙ r.line_is; check = r.check };
    }) c.requires.ready.running) refl c.in_default.ensures.unsaid

pub returns-in_default-read_check-clause-talks : goal.returns-in_default-read_check-clause-talks
returns-in_default-read_check-clause-talks g c =
    said_wrong c.args.link.now.set.config.shape c.args.link.now.talk c.args.link.now.talk (g.P.Port.port_state c.args.port.now).talk (g.P.Port.port_state c.ask.new.self).talk c.deref.result.now
    (take c.in-Ok.count c.ask.new.reply)
    (sent_form (g.P.Port.port_state c.args.port.now).device c.args.link.now.check c.put_request-sent.result c.args.link.now.set.config c.args.link.now.anew c.args.link.now.running
    c.args.link.now.due c.args.link.now.line.items c.deref.result.now c.args.drives.now c.requires.ready.linked (record {
      wide = c.requires.ready.wide;
      some = c.requires.some;
      loads = λ due. let r = c.put_request-sent.ensures.loads due in record { line_is = c.deref.ensures.value ∙ r.line_is; check = r.check };
      goes = λ due none. let r = c.put_request-sent.ensures.drives due none in record { line_is = c.deref.ensures.value ∙ r.line_is; check = r.check };
    }) c.requires.ready.running) refl c.in-Ok.ensures.said

pub returns-clause-said : goal.returns-clause-said
returns-clause-said g c = λ _.
    behind_one _ c.args.link.now.talk c.and-link.result c.deref.result.now (take c.in-Ok.count c.ask.new.reply) (talk_is g c) (λ d b e k a. λ goes.
    let s = stands g c (Some d) (Some e) k goes.linked (subst (λ (z : Check). Answers d z c.deref.result.now (take c.in-Ok.count c.ask.new.reply) e k) goes.check a) in
    record {
      goes = record {
        linked = rw c.requires.ready.running (subst (λ l. IsLinked (Some e) c.args.link.now.set.config l false true false) (sym c.clear.ensures.items) s.linked);
        check = s.check refl ∙ sym c.in-Some.ensures.right.1;
      };
      turned = s.turned;
    })

pub returns-clause-turned : goal.returns-clause-turned
returns-clause-turned g c = λ _. record {
  held = record {
    is_open = c.in-Ok.ensures.stays;
    set = refl;
    lost = refl;
    running = c.requires.ready.running;
    check = λ some. (told g c).check some ∙ sym c.in-Some.ensures.right.1;
    linked = rw c.requires.ready.running (subst (λ l. IsLinked (g.P.Port.port_state c.ask.new.self).device c.args.link.now.set.config l false true false) (sym c.clear.ensures.items) (told g c).linked);
    room = record {
      line = λ _. let room = c.requires.ready.room.line c.requires.ready.running in omega (arith, room, c.clear.ensures.len, c.clear.ensures.capacity, c.put_request-sent.ensures.room);
      expected = omega (arith, c.requires.ready.room.expected, c.read_check.ensures.room);
    };
  };
  turned = (told g c).turned;
}

pub read_check-requires : goal.read_check-requires
read_check-requires g c =
    let n = pins_of c.args.link.now.set.config.shape in
    let many : length c.args.reads.now ≡ length c.read_all.new.reads
    = sym (length-map c.args.reads.now length) ∙ ap length (sym c.read_all.ensures.lengths) ∙ length-map c.read_all.new.reads length in
    let same = same_room n c.args.drives.now c.read_all.new.reads c.requires.ready.wide
    (lengths_kept (λ l. l ≡ n) c.args.reads.now c.read_all.new.reads c.read_all.ensures.lengths c.requires.rows.wide) (c.requires.rows.as_many ∙ many) in
    omega (arith, same, c.requires.few, c.requires.ready.room.expected)

pub returns-in_default-read_check-clause-alarm : goal.returns-in_default-read_check-clause-alarm
returns-in_default-read_check-clause-alarm g c = λ _ some.
    let whole = seam c.ask.new.reply c.args.link.now.reply.items c.args.link.now.reply.len (c.ask.ensures.length ∙ ap length c.deref_mut.ensures.value) c.args.link.now.reply.ok.0 in
    let reply = right_reply (g.P.Port.port_state c.args.port.now).device (g.P.Port.port_state c.ask.new.self).device c.args.link.now.check (g.P.Port.port_state c.ask.new.self).check
    c.put_request-sent.result c.args.link.now.set.config c.args.link.now.anew c.args.link.now.running c.args.link.now.due c.args.link.now.line.items c.deref.result.now
    (take c.in-Ok.count c.ask.new.reply) c.args.drives.now c.requires.ready.linked
    (record {
      wide = c.requires.ready.wide;
      some = c.requires.some;
      loads = λ due. let r = c.put_request-sent.ensures.loads due in record { line_is = c.deref.ensures.value ∙ r.line_is; check = r.check };
      goes = λ due none. let r = c.put_request-sent.ensures.drives due none in record { line_is = c.deref.ensures.value ∙ r.line_is; check = r.check };
    })
    (own_answers (g.P.Port.port_state c.args.port.now).device (g.P.Port.port_state c.ask.new.self).device (g.P.Port.port_state c.args.port.now).check c.args.link.now.check
    (g.P.Port.port_state c.ask.new.self).check c.deref.result.now (take c.in-Ok.count c.ask.new.reply) c.requires.ready.check c.in-Ok.ensures.told) c.requires.ready.running some in
    let keep = keep_of (pins_of c.args.link.now.set.config.shape) c.args.reads.now reply.rows c.requires.rows.wide reply.wide (reply.many ∙ c.requires.rows.as_many) in
    let same = c.read_all.ensures.right c.put_request-sent.result reply.rows keep (ap (λ l. take c.in-Ok.count l) (c.deref-2.ensures.value ∙ whole) ∙ reply.is) in
    absurd (c.in_default-read_check.ensures.wrong
    (ap (λ l. take c.in-Ok.count l) (c.deref-3.ensures.value ∙ whole) ∙ reply.is ∙ ap (reading_line c.put_request-sent.result) (sym same)))

pub returns-clause-stands : goal.returns-clause-stands
returns-clause-stands g c = λ _ s.
    answer_stands (g.P.Port.port_state c.args.port.now) (g.P.Port.port_state c.ask.new.self) c.args.link.now.talk c.and-link.result c.deref.result.now (take c.in-Ok.count c.ask.new.reply) (talk_is g c) c.in-Ok.ensures.told s

pub returns-clause-stood : goal.returns-clause-stood
returns-clause-stood g c = λ s.
    stood_of (g.P.Port.port_state c.ask.new.self) c.and-link.result
    (answer_stands (g.P.Port.port_state c.args.port.now) (g.P.Port.port_state c.ask.new.self) c.args.link.now.talk c.and-link.result c.deref.result.now (take c.in-Ok.count c.ask.new.reply) (talk_is g c) c.in-Ok.ensures.told s)

pub returns-in_default-clause-stood : goal.returns-in_default-clause-stood
returns-in_default-clause-stood g c = λ s.
    stood_on (g.P.Port.port_state c.args.port.now) (g.P.Port.port_state c.ask.new.self) c.args.link.now.talk c.args.link.now.talk c.ask.ensures.machine refl (stood_of (g.P.Port.port_state c.args.port.now) c.args.link.now.talk s)

pub returns-in_default-read_check-clause-stood : goal.returns-in_default-read_check-clause-stood
returns-in_default-read_check-clause-stood g c = λ s.
    stood_on (g.P.Port.port_state c.args.port.now) (g.P.Port.port_state c.ask.new.self) c.args.link.now.talk c.args.link.now.talk c.ask.ensures.machine refl (stood_of (g.P.Port.port_state c.args.port.now) c.args.link.now.talk s)
