use Rattle.std.proofs.Common.{◌+◌, ◌*◌, ◌≡◌, ◌∙◌, ◌-◌, ◌≤◌, take, drop, length, refl, sym, ap, subst, arith}
use Rattle.rig_port.proofs.Vocabulary.{length-take, length-drop, All-take, All-drop, pins_of, Pins, lengths_kept, AreWide, div_ceil, sum_by}
use Rattle.rig_port.proofs.Vocabulary.{Configuration, word_room, turn_room}
use Rattle.rig_port.proofs.{Held.put_lengths, Held.not_turned, Held.turned_next, Held.whole_turned, Held.same_piece, Resumed.many_rows}
use Rattle.rig_port.proofs.Behind.{behind_more, behind_none, behind_so, nothing_said, said_more}
use Rattle.rig_port.proofs.{Standing.turns_next, Standing.turns_none, Standing.turns_whole, Alarm.still_told, Alarm.rose_later}
use Rattle.rig_port.proofs.{Room.few_enough, Room.piece_few, Telling.stood_of}
use Rattle.rig_port.proofs.turn.turn_some.Goals as goal

pub turn-requires-clause-few : goal.turn-requires-clause-few
turn-requires-clause-few g c =
    let set = c.args.link.now.set.config in
    let n = pins_of set.shape in
    let k = c.min-end.result - c.turns.at in
    let piece = take k (drop c.turns.at c.args.drives.now) in
    let rows = All-take (λ (row : Pins). length row ≡ n) k (drop c.turns.at c.args.drives.now) (All-drop (λ (row : Pins). length row ≡ n) c.turns.at c.args.drives.now c.requires.ready.wide) in
    let pins : c.pins.result ≡ n = c.pins.ensures.pins ∙ ap pins_of c.shape-shape.ensures.shape in
    let fits = subst (λ p. c.most_drives-most.result * (2 * div_ceil p 8 + 2) + 8 ≤ turn_room p) pins c.most_drives-most.ensures.few in
    let short = piece_few c.args.drives.now c.turns.at k in
    let few = few_enough n c.most_drives-most.result piece rows (omega (arith, short, c.min-end.ensures, c.saturating_add.ensures)) fits in
    subst (λ (s : Configuration). sum_by word_room piece + 8 ≤ turn_room (pins_of s.shape)) (sym c.turns.invariant.3.set) few

pub returns-then-not-turn-clause-alarm : goal.returns-then-not-turn-clause-alarm
returns-then-not-turn-clause-alarm g c = λ _ some.
    let told = still_told (λ d. (d.shape, d.faults)) (g.P.Port.port_state c.args.port.now).device (g.P.Port.port_state c.turns.port).device c.turns.invariant.0 some in
    rose_later (g.P.Port.port_state c.args.port.now).failures (g.P.Port.port_state c.turns.port).failures (g.P.Port.port_state c.turn.new.port).failures
    c.turns.invariant.1 (c.turn.ensures.alarm c.if-not-turn.true told)

pub turns-init : goal.turns-init
turns-init g c = (
  refl,
  omega arith,
  refl,
  record { is_open = c.requires.ready.is_open; set = refl; lost = refl; running = c.requires.ready.running; check = c.requires.ready.check; linked = c.requires.ready.linked; room = c.requires.ready.room },
  not_turned c.args.link.now.set.config c.args.link.now.line.items c.args.link.now.anew c.args.link.now.running c.args.link.now.due
      (g.P.Port.port_state c.args.port.now).device c.requires.ready.linked c.requires.ready.running,
  omega arith,
  λ some. absurd (omega (arith, some)),
  λ idle. idle,
  nothing_said c.args.link.now.set.config.shape c.args.link.now.talk (g.P.Port.port_state c.args.port.now).talk,
  behind_none _ c.args.link.now.talk (turns_none c.args.link.now c.requires.ready.running),
  λ s. s,
)

pub turn-requires-clause-ready : goal.turn-requires-clause-ready
turn-requires-clause-ready g c =
    let n = pins_of c.args.link.now.set.config.shape in
    let k = c.min-end.result - c.turns.at in
    let held = c.turns.invariant.3 in
    record {
      is_open = held.is_open;
      linked = held.linked;
      running = held.running;
      wide = subst (λ (s : Configuration). AreWide s.shape (take k (drop c.turns.at c.args.drives.now))) (sym held.set)
          (All-take (λ (row : Pins). length row ≡ n) k (drop c.turns.at c.args.drives.now)
          (All-drop (λ (row : Pins). length row ≡ n) c.turns.at c.args.drives.now c.requires.ready.wide));
      check = held.check;
      room = held.room;
    }

pub turn-requires-clause-rows : goal.turn-requires-clause-rows
turn-requires-clause-rows g c =
    let n = pins_of c.args.link.now.set.config.shape in
    let k = c.min-end.result - c.turns.at in
    let rows = lengths_kept (λ l. l ≡ n) c.args.reads.now c.turns.reads c.turns.invariant.2 c.requires.rows.wide in
    let many : length c.turns.reads ≡ length c.args.drives.now = many_rows c.args.reads.now c.turns.reads c.turns.invariant.2 ∙ sym c.requires.rows.as_many in
    record {
      wide = subst (λ (s : Configuration). AreWide s.shape (take k (drop c.turns.at c.turns.reads))) (sym c.turns.invariant.3.set)
          (All-take (λ (row : Pins). length row ≡ n) k (drop c.turns.at c.turns.reads) (All-drop (λ (row : Pins). length row ≡ n) c.turns.at c.turns.reads rows));
      as_many = same_piece c.args.drives.now c.turns.reads c.turns.at k (sym many);
    }

pub returns-then-not-turn-clause-lengths : goal.returns-then-not-turn-clause-lengths
returns-then-not-turn-clause-lengths g c =
    put_lengths c.turns.at (c.min-end.result - c.turns.at) c.args.reads.now c.turns.reads c.turn.new.reads c.turns.invariant.2 c.turn.ensures.lengths

pub turns-preserved : goal.turns-preserved
turns-preserved g c =
    let held = (c.turn.ensures.turned c.if-not-turn.false).held in
    let le : c.turns.at ≤ c.min-end.result = omega (arith, c.min-end.ensures, c.saturating_add.ensures, c.turns-test.true, c.turns.invariant.5) in
    let within : c.min-end.result ≤ length c.args.drives.now = omega (arith, c.min-end.ensures) in (
      c.turn.ensures.later.machine ∙ c.turns.invariant.0,
      omega (arith, c.turns.invariant.1, c.turn.ensures.later.failures),
      put_lengths c.turns.at (c.min-end.result - c.turns.at) c.args.reads.now c.turns.reads c.turn.new.reads c.turns.invariant.2 c.turn.ensures.lengths,
      record {
        is_open = held.is_open;
        set = held.set ∙ c.turns.invariant.3.set;
        lost = held.lost ∙ c.turns.invariant.3.lost;
        running = held.running;
        check = held.check;
        linked = held.linked;
        room = held.room;
      },
      turned_next c.args.link.now.set.config c.turns.link.set.config c.args.drives.now c.turns.reads c.turn.new.reads c.turns.at c.min-end.result
          c.args.link.now.due c.turns.link.due c.turn.new.link.due (g.P.Port.port_state c.args.port.now).device (g.P.Port.port_state c.turns.port).device
          (g.P.Port.port_state c.turn.new.port).device c.turns.invariant.3.set le (omega (arith, within, c.requires.rows.as_many, c.turns.auto.reads))
          c.turn.ensures.lengths c.turns.invariant.4 (c.turn.ensures.turned c.if-not-turn.false).turned,
      within,
      λ _. c.turn.ensures.sent c.if-not-turn.false,
      λ _. c.turn.ensures.sent c.if-not-turn.false,
      said_more c.args.link.now.talk c.turns.link.talk c.turn.new.link.talk (g.P.Port.port_state c.args.port.now).talk (g.P.Port.port_state c.turns.port).talk
          (g.P.Port.port_state c.turn.new.port).talk (ap (λ (s : Configuration). s.shape) c.turns.invariant.3.set) c.turns.invariant.8 c.turn.ensures.talks,
      behind_more _ _ _ c.args.link.now.talk c.turns.link.talk c.turn.new.link.talk c.turns.invariant.9 (c.turn.ensures.said c.if-not-turn.false)
          (λ d b e k x y _ _. turns_next c.args.link.now c.turns.link c.turn.new.link c.args.drives.now c.turns.reads c.turn.new.reads c.turns.at c.min-end.result c.turns.invariant.3.set le
          (omega (arith, within, c.requires.rows.as_many, c.turns.auto.reads)) c.turn.ensures.lengths d b e k x y),
      λ s. c.turn.ensures.stands c.if-not-turn.false (c.turns.invariant.10 s),
    )

pub turn-requires-clause-some : goal.turn-requires-clause-some
turn-requires-clause-some g c = λ _.
    let long = length-take (c.min-end.result - c.turns.at) (drop c.turns.at c.args.drives.now) in
    let rest = length-drop c.turns.at c.args.drives.now in
    omega (arith, long, rest, c.turns-test.true, c.min-end.ensures, c.saturating_add.ensures, c.most_drives-most.ensures.some)

pub returns-then-not-turn-clause-stays : goal.returns-then-not-turn-clause-stays
returns-then-not-turn-clause-stays g c = record {
  set = c.turn.ensures.stays.set ∙ c.turns.invariant.3.set;
  lost = c.turn.ensures.stays.lost ∙ c.turns.invariant.3.lost;
  running = c.turn.ensures.stays.running ∙ c.turns.invariant.3.running ∙ sym c.requires.ready.running;
}

pub returns-clause-stays : goal.returns-clause-stays
returns-clause-stays g c = record {
  set = c.turns.invariant.3.set;
  lost = c.turns.invariant.3.lost;
  running = c.turns.invariant.3.running ∙ sym c.requires.ready.running;
}

pub returns-clause-turned : goal.returns-clause-turned
returns-clause-turned g c = λ _.
    let over : length c.args.drives.now ≤ c.turns.at = omega (arith, c.turns-test.false) in
    let many = many_rows c.args.reads.now c.turns.reads c.turns.invariant.2 in
    record {
      held = c.turns.invariant.3;
      turned = whole_turned c.args.drives.now c.turns.reads c.args.link.now.set.config c.turns.at c.args.link.now.due c.turns.link.due
          (g.P.Port.port_state c.args.port.now).device (g.P.Port.port_state c.turns.port).device over (omega (arith, over, many, c.requires.rows.as_many)) c.turns.invariant.4;
    }

pub returns-then-not-turn-clause-talks : goal.returns-then-not-turn-clause-talks
returns-then-not-turn-clause-talks g c =
    said_more c.args.link.now.talk c.turns.link.talk c.turn.new.link.talk (g.P.Port.port_state c.args.port.now).talk (g.P.Port.port_state c.turns.port).talk
    (g.P.Port.port_state c.turn.new.port).talk (ap (λ (s : Configuration). s.shape) c.turns.invariant.3.set) c.turns.invariant.8 c.turn.ensures.talks

pub returns-clause-said : goal.returns-clause-said
returns-clause-said g c = λ _.
    let over : length c.args.drives.now ≤ c.turns.at = omega (arith, c.turns-test.false) in
    let many = many_rows c.args.reads.now c.turns.reads c.turns.invariant.2 in
    behind_so _ _ c.args.link.now.talk c.turns.link.talk c.turns.invariant.9
    (λ d b e k _. turns_whole c.args.link.now c.turns.link c.args.drives.now c.turns.reads c.turns.at over (omega (arith, over, many, c.requires.rows.as_many)) d b e k)

pub returns-then-not-turn-clause-stood : goal.returns-then-not-turn-clause-stood
returns-then-not-turn-clause-stood g c = λ s. c.turn.ensures.stood (c.turns.invariant.10 s)

pub returns-clause-stood : goal.returns-clause-stood
returns-clause-stood g c = λ s. stood_of (g.P.Port.port_state c.turns.port) c.turns.link.talk (c.turns.invariant.10 s)

pub returns-clause-stands : goal.returns-clause-stands
returns-clause-stands g c = λ _ s. c.turns.invariant.10 s
