use Rattle.rig_port.proofs.Vocabulary.{◌≡◌, ap, subst, true, List, Some, ◌∙◌, state_of, Said, EachWas, GoesOnBy, MayBe, GoOnFor}
use Rattle.rig_port.proofs.{Alarm.told_alarm, port_board.PortBoardBoard.cycles.Goals.Joined-self, Telling.tells_held, Telling.told_here}
use Rattle.rig_port.proofs.{Held.told_on, Resumed.both_rose, Resumed.held_here, Resumed.running_here, Resumed.ready_here, Resumed.wide_here}
use Rattle.rig_port.proofs.Standing.{all_here, all_on, cycles_each, held_on, narrows_down, narrows_of, sent_here, taken_down}
use Rattle.rig_port.proofs.{Behind.behind_all, Standing.talk_here}
use Rattle.rig_port.proofs.port_board.PortBoardBoard.cycles.Given.{Over}
use Rattle.rig_port.proofs.port_board.PortBoardBoard.cycles.Goals as goal

pub returns-clause-cycles : goal.returns-clause-cycles
returns-clause-cycles g c =
    let made = c.drive_on.ensures.turned c.if-not-drive_on.false in
    let held = made.held in
    let turned = made.turned in
    let told = told_on turned.pairs (g.P.Port.port_state c.self.inside.port).device (g.P.Port.port_state c.drive_on.new.port).device c.drive_on.new.link.due c.in-Some.ensures.value (ap (λ s. s.device) c.self.view_is) held.set turned.turned in
    record { pairs = turned.pairs; driven = turned.driven; read = turned.read; cycled = record { ready = held.running; told = told } }

pub returns-then-not-drive_on-clause-alarm : goal.returns-then-not-drive_on-clause-alarm
returns-then-not-drive_on-clause-alarm g c = told_alarm (g.P.Port.port_state c.self.inside.port).device c.in-Some.ensures.value (ap (λ s. s.device) c.self.view_is) (ap (λ s. s.port_failures) c.self.view_is) (c.drive_on.ensures.alarm c.if-not-drive_on.true)

pub returns-clause-again : goal.returns-clause-again
returns-clause-again g c =
    rw (← c.self.view_is) (both_rose c.self.inside.failures c.drive_on.new.failures (g.P.Port.port_state c.self.inside.port).failures (g.P.Port.port_state c.drive_on.new.port).failures
    c.drive_on.ensures.later.failures c.drive_on.ensures.number)

pub returns-then-not-drive_on-clause-again : goal.returns-then-not-drive_on-clause-again
returns-then-not-drive_on-clause-again g c =
    rw (← c.self.view_is) (both_rose c.self.inside.failures c.drive_on.new.failures (g.P.Port.port_state c.self.inside.port).failures (g.P.Port.port_state c.drive_on.new.port).failures
    c.drive_on.ensures.later.failures c.drive_on.ensures.number)

pub drive_on-requires-clause-ready : goal.drive_on-requires-clause-ready
drive_on-requires-clause-ready g c =
    let port = g.P.Port.port_state c.self.inside.port in
    ready_here port c.self.inside.found c.self.inside.again c.in-Some.link c.args.drives.now c.in-Some.ensures.value c.self.invariant (ap (λ s. s.in_session) c.self.view_is ∙ c.requires.session)
    (wide_here port c.self.inside.found c.self.inside.again c.in-Some.link c.args.drives.now c.in-Some.ensures.value c.self.invariant (rw (ap (λ s. s.found) c.self.view_is) c.requires.drive_pins))

pub drive_on-requires-clause-rows : goal.drive_on-requires-clause-rows
drive_on-requires-clause-rows g c = record {
  wide = wide_here (g.P.Port.port_state c.self.inside.port) c.self.inside.found c.self.inside.again c.in-Some.link c.args.reads.now c.in-Some.ensures.value c.self.invariant (rw (ap (λ s. s.found) c.self.view_is) c.requires.read_pins);
  as_many = c.requires.as_many;
}

module _ (g : Over) (c : Joined-self g) where
  runs : c.in-Some.link.running ≡ true
  runs = running_here c.in-Some.ensures.value (ap (λ s. s.in_session) c.self.view_is ∙ c.requires.session)

  each : EachWas (GoesOnBy c.args.drives.now c.drive_on.new.reads) (MayBe (state_of (g.P.Port.port_state c.self.inside.port) c.self.inside.found c.self.inside.link c.self.inside.past c.self.inside.again.number c.self.inside.failures))
      (MayBe (state_of (g.P.Port.port_state c.drive_on.new.port) c.self.inside.found (Some c.drive_on.new.link) c.self.inside.past c.drive_on.new.again.number c.drive_on.new.failures))
  each =
      let port = g.P.Port.port_state c.self.inside.port in
      cycles_each port (g.P.Port.port_state c.drive_on.new.port) c.self.inside.found c.self.inside.past c.self.inside.past c.self.inside.again.number c.drive_on.new.again.number
      c.self.inside.failures c.drive_on.new.failures c.args.drives.now c.drive_on.new.reads c.in-Some.link c.drive_on.new.link c.self.inside.again c.drive_on.new.again c.in-Some.ensures.value
      (held_here port c.self.inside.found c.self.inside.again c.in-Some.ensures.value c.self.invariant) (all_here port c.self.inside.found c.self.inside.again c.in-Some.ensures.value c.self.invariant)
      runs (c.drive_on.ensures.sent c.if-not-drive_on.false) (c.drive_on.ensures.said c.if-not-drive_on.false)

pub invariant_of-self-2 : goal.invariant_of-self-2
invariant_of-self-2 g c =
    let port = g.P.Port.port_state c.self.inside.port in
    let now = g.P.Port.port_state c.drive_on.new.port in
    let held = held_here port c.self.inside.found c.self.inside.again c.in-Some.ensures.value c.self.invariant in
    let kept = (c.drive_on.ensures.turned c.if-not-drive_on.false).held in (
      held_on port now c.self.inside.found c.in-Some.link c.drive_on.new.link held kept c.drive_on.ensures.later.machine (runs g c),
      c.drive_on.ensures.resumes c.if-not-drive_on.false,
      all_on port now c.self.inside.found c.args.drives.now c.drive_on.new.reads c.in-Some.link c.drive_on.new.link c.self.inside.again c.drive_on.new.again held
          (all_here port c.self.inside.found c.self.inside.again c.in-Some.ensures.value c.self.invariant) kept (runs g c) (c.drive_on.ensures.said c.if-not-drive_on.false),
      c.drive_on.ensures.stands c.if-not-drive_on.false (told_here port c.self.inside.found c.self.inside.again c.in-Some.ensures.value c.self.invariant),
    )

pub returns-clause-cycles_for_each : goal.returns-clause-cycles_for_each
returns-clause-cycles_for_each g c = rw (← c.self.view_is) (each g c)

pub returns-clause-narrows : goal.returns-clause-narrows
returns-clause-narrows g c = rw (← c.self.view_is) (narrows_of (GoesOnBy c.args.drives.now c.drive_on.new.reads) _ _ (each g c))

pub returns-clause-taken : goal.returns-clause-taken
returns-clause-taken g c =
    rw (← c.self.view_is) (subst (λ (t : List Said). GoOnFor c.self.inside.found t c.drive_on.new.link.talk (g.P.Port.port_state c.self.inside.port).talk (g.P.Port.port_state c.drive_on.new.port).talk)
    (talk_here c.self.inside.past c.in-Some.ensures.value) (sent_here (g.P.Port.port_state c.self.inside.port) (g.P.Port.port_state c.drive_on.new.port) c.self.inside.found c.self.inside.again c.in-Some.link
    c.drive_on.new.link c.in-Some.ensures.value c.self.invariant c.drive_on.ensures.talks))

pub returns-then-not-drive_on-clause-narrows : goal.returns-then-not-drive_on-clause-narrows
returns-then-not-drive_on-clause-narrows g c =
    rw (← c.self.view_is) (narrows_down (g.P.Port.port_state c.self.inside.port) (g.P.Port.port_state c.drive_on.new.port) c.self.inside.found c.take.new.self c.self.inside.past
    c.self.inside.again.number c.drive_on.new.again.number c.self.inside.failures c.drive_on.new.failures c.in-Some.link c.drive_on.new.link c.in-Some.ensures.value c.take.ensures.after
    (behind_all c.in-Some.link.talk c.drive_on.new.link.talk (g.P.Port.port_state c.self.inside.port).talk (g.P.Port.port_state c.drive_on.new.port).talk c.drive_on.ensures.talks))

pub returns-then-not-drive_on-clause-taken : goal.returns-then-not-drive_on-clause-taken
returns-then-not-drive_on-clause-taken g c =
    rw (← c.self.view_is) (taken_down c.self.inside.found c.self.inside.past c.in-Some.link c.drive_on.new.link (g.P.Port.port_state c.self.inside.port).talk (g.P.Port.port_state c.drive_on.new.port).talk
    c.in-Some.ensures.value c.take.ensures.after (sent_here (g.P.Port.port_state c.self.inside.port) (g.P.Port.port_state c.drive_on.new.port) c.self.inside.found c.self.inside.again c.in-Some.link
    c.drive_on.new.link c.in-Some.ensures.value c.self.invariant c.drive_on.ensures.talks))

pub returns-clause-told : goal.returns-clause-told
returns-clause-told g c =
    let up = invariant_of-self-2 g c in
    tells_held (g.P.Port.port_state c.drive_on.new.port) c.self.inside.found c.drive_on.new.link c.self.inside.past c.drive_on.new.again.number c.drive_on.new.failures up.0 up.3
