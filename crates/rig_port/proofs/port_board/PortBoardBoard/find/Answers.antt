use Rattle.rig_port.proofs.Vocabulary.{◌≡◌, ◌≤◌, ◌∙◌, arith, refl, sym, ap, subst, List, [], IfSome, Shape, cleared, vec_capacity, pins_of}
use Rattle.rig_port.proofs.Vocabulary.{AreCounts, turn_room, Configuration, HasRows, Said, Sent, Finds, PortBoardState, Behind, GoOn}
use Rattle.rig_port.proofs.{Behind.heard_only, Behind.said_none, Telling.stood_first, Telling.tells_held}
use Rattle.rig_port.proofs.{Held.fresh_held, Standing.all_found, Standing.finds_told, Resumed.both_rose, Resumed.fresh_resumes}
use Rattle.rig_port.proofs.port_board.PortBoardBoard.find.Goals as goal

pub attach_some-requires-clause-counts : goal.attach_some-requires-clause-counts
attach_some-requires-clause-counts g c = subst AreCounts (ap (λ s. s.shape.counts) (sym c.in-Ok-link_of.ensures.set)) c.in-Ok-put_question.ensures.right

pub invariant_of-self-2 : goal.invariant_of-self-2
invariant_of-self-2 g c =
    let m = c.args.shape.now in
    let past = c.attach_some.ensures.past in
    let set = ap (λ s. s.config) c.attach_some.ensures.stays.set ∙ c.in-Ok-link_of.ensures.set in
    let idle = c.attach_some.ensures.stays.running ∙ c.in-Ok-link_of.ensures.idle.1 in (
      fresh_held (g.P.Port.port_state c.attach_some.new.port) m c.attach_some.new.link (c.attach_some.ensures.open c.if-not-attach_some.false)
          set (ap (λ v. v.items) c.attach_some.ensures.stays.line ∙ c.in-Ok-link_of.ensures.line) (c.attach_some.ensures.stays.anew ∙ c.in-Ok-link_of.ensures.idle.0) idle
          (subst (λ s. IfSome (g.P.Port.port_state c.attach_some.new.port).device (λ d. (d.shape ≡ s) × (d.set ≡ cleared s))) (ap (λ s. s.shape) c.in-Ok-link_of.ensures.set)
          (c.attach_some.ensures.fresh c.if-not-attach_some.false))
          (subst (λ (s : Shape). turn_room (pins_of s) ≤ vec_capacity c.attach_some.new.link.expected) (ap (λ s. s.shape) c.in-Ok-link_of.ensures.set) (c.attach_some.ensures.room c.if-not-attach_some.false))
          (c.attach_some.ensures.check c.if-not-attach_some.false),
      fresh_resumes (g.P.Port.port_state c.attach_some.new.port).device m c.attach_some.new.link c.make_rows.new.self c.attach_some.new.again set idle
          (subst (λ n. HasRows n c.make_rows.new.self) c.pins.ensures.pins c.in-Ok.ensures)
          (record { whole = past.whole; drives = past.drives; readings = past.readings; made = past.made; covers = past.covers }) c.attach_some.ensures.spare,
      all_found (g.P.Port.port_state c.attach_some.new.port) m c.attach_some.new.link c.make_rows.new.self c.attach_some.new.again (c.attach_some.ensures.open c.if-not-attach_some.false)
          set (ap (λ v. v.items) c.attach_some.ensures.stays.line ∙ c.in-Ok-link_of.ensures.line) (c.attach_some.ensures.stays.anew ∙ c.in-Ok-link_of.ensures.idle.0) idle
          (subst (λ (s : Shape). turn_room (pins_of s) ≤ vec_capacity c.attach_some.new.link.expected) (ap (λ s. s.shape) c.in-Ok-link_of.ensures.set) (c.attach_some.ensures.room c.if-not-attach_some.false))
          (subst (λ n. HasRows n c.make_rows.new.self) c.pins.ensures.pins c.in-Ok.ensures)
          (record { whole = past.whole; drives = past.drives; readings = past.readings; made = past.made; covers = past.covers }) c.attach_some.ensures.spare
          (subst (λ (t : List Said). Behind (Finds m c.attach_some.new.link) t c.attach_some.new.link.talk) c.in-Ok-link_of.ensures.talk
          (subst (λ (s : Shape). Behind (Finds s c.attach_some.new.link) c.in-Ok-link_of.link.talk c.attach_some.new.link.talk) (ap (λ s. s.shape) c.in-Ok-link_of.ensures.set)
          (c.attach_some.ensures.said c.if-not-attach_some.false))),
      c.attach_some.ensures.stands c.if-not-attach_some.false (stood_first (g.P.Port.port_state c.open.new.self) c.in-Ok-link_of.link.talk c.in-Ok-link_of.ensures.talk),
    )

pub returns-clause-again : goal.returns-clause-again
returns-clause-again g c =
    rw (← c.self.view_is) (both_rose c.self.inside.failures c.attach_some.new.failures (g.P.Port.port_state c.self.inside.port).failures (g.P.Port.port_state c.attach_some.new.port).failures
    (omega (arith, c.open.ensures.later, c.attach_some.ensures.later)) c.attach_some.ensures.number)

pub returns-in_default-clause-taken : goal.returns-in_default-clause-taken
returns-in_default-clause-taken g c =
    subst (λ (t : List Sent). GoOn c.args.shape.now [] c.new-self-inside.result t (g.P.Port.port_state c.self.inside.port).talk) (ap (λ (s : PortBoardState). s.port_talk) c.self.view_is)
    (said_none c.args.shape.now [] c.new-self-inside.result (g.P.Port.port_state c.self.inside.port).talk (g.P.Port.port_state c.self.inside.port).talk c.new-self-inside.ensures refl)

pub returns-in_default-link_of-clause-taken : goal.returns-in_default-link_of-clause-taken
returns-in_default-link_of-clause-taken g c =
    subst (λ (t : List Sent). GoOn c.args.shape.now [] c.new-self-inside.result t (g.P.Port.port_state c.self.inside.port).talk) (ap (λ (s : PortBoardState). s.port_talk) c.self.view_is)
    (said_none c.args.shape.now [] c.new-self-inside.result (g.P.Port.port_state c.self.inside.port).talk (g.P.Port.port_state c.self.inside.port).talk c.new-self-inside.ensures refl)

pub returns-in_default-put_question-clause-taken : goal.returns-in_default-put_question-clause-taken
returns-in_default-put_question-clause-taken g c =
    subst (λ (t : List Sent). GoOn c.args.shape.now [] c.new-self-inside.result t (g.P.Port.port_state c.self.inside.port).talk) (ap (λ (s : PortBoardState). s.port_talk) c.self.view_is)
    (said_none c.args.shape.now [] c.new-self-inside.result (g.P.Port.port_state c.self.inside.port).talk (g.P.Port.port_state c.self.inside.port).talk c.new-self-inside.ensures refl)

pub returns-in-Err-Memory-clause-taken : goal.returns-in-Err-Memory-clause-taken
returns-in-Err-Memory-clause-taken g c =
    subst (λ (t : List Sent). GoOn c.args.shape.now [] c.new-self-inside.result t (g.P.Port.port_state c.open.new.self).talk) (ap (λ (s : PortBoardState). s.port_talk) c.self.view_is)
    (said_none c.args.shape.now [] c.new-self-inside.result (g.P.Port.port_state c.self.inside.port).talk (g.P.Port.port_state c.open.new.self).talk c.new-self-inside.ensures c.open.ensures.talk)

pub returns-in-Err-Failed-clause-taken : goal.returns-in-Err-Failed-clause-taken
returns-in-Err-Failed-clause-taken g c =
    subst (λ (t : List Sent). GoOn c.args.shape.now [] c.new-self-inside.result t (g.P.Port.port_state c.open.new.self).talk) (ap (λ (s : PortBoardState). s.port_talk) c.self.view_is)
    (said_none c.args.shape.now [] c.new-self-inside.result (g.P.Port.port_state c.self.inside.port).talk (g.P.Port.port_state c.open.new.self).talk c.new-self-inside.ensures c.open.ensures.talk)

pub returns-then-not-attach_some-clause-taken : goal.returns-then-not-attach_some-clause-taken
returns-then-not-attach_some-clause-taken g c =
    subst (λ (t : List Sent). GoOn c.args.shape.now [] c.new-self-inside.result t (g.P.Port.port_state c.attach_some.new.port).talk) (ap (λ (s : PortBoardState). s.port_talk) c.self.view_is)
    (subst (λ (t : List Said). GoOn c.args.shape.now [] t (g.P.Port.port_state c.self.inside.port).talk (g.P.Port.port_state c.attach_some.new.port).talk) (sym c.new-self-inside.ensures)
    (heard_only c.args.shape.now c.in-Ok-link_of.link.talk c.attach_some.new.link.talk (g.P.Port.port_state c.self.inside.port).talk (g.P.Port.port_state c.attach_some.new.port).talk
    (subst (λ (m : Shape). GoOn m c.in-Ok-link_of.link.talk c.attach_some.new.link.talk (g.P.Port.port_state c.self.inside.port).talk (g.P.Port.port_state c.attach_some.new.port).talk)
    (ap (λ (s : Configuration). s.shape) c.in-Ok-link_of.ensures.set)
    (subst (λ (t : List Sent). GoOn c.in-Ok-link_of.link.set.config.shape c.in-Ok-link_of.link.talk c.attach_some.new.link.talk t (g.P.Port.port_state c.attach_some.new.port).talk) c.open.ensures.talk
    c.attach_some.ensures.talks))))

pub returns-clause-taken : goal.returns-clause-taken
returns-clause-taken g c =
    subst (λ (t : List Sent). GoOn c.args.shape.now [] c.attach_some.new.link.talk t (g.P.Port.port_state c.attach_some.new.port).talk) (ap (λ (s : PortBoardState). s.port_talk) c.self.view_is)
    (subst (λ (t : List Said). GoOn c.args.shape.now t c.attach_some.new.link.talk (g.P.Port.port_state c.self.inside.port).talk (g.P.Port.port_state c.attach_some.new.port).talk) c.in-Ok-link_of.ensures.talk
    (subst (λ (m : Shape). GoOn m c.in-Ok-link_of.link.talk c.attach_some.new.link.talk (g.P.Port.port_state c.self.inside.port).talk (g.P.Port.port_state c.attach_some.new.port).talk)
    (ap (λ (s : Configuration). s.shape) c.in-Ok-link_of.ensures.set)
    (subst (λ (t : List Sent). GoOn c.in-Ok-link_of.link.set.config.shape c.in-Ok-link_of.link.talk c.attach_some.new.link.talk t (g.P.Port.port_state c.attach_some.new.port).talk) c.open.ensures.talk
    c.attach_some.ensures.talks)))

pub returns-clause-found : goal.returns-clause-found
returns-clause-found g c =
    let m = c.args.shape.now in record {
      found = refl;
      told = finds_told m c.attach_some.new.link.due c.attach_some.new.link.set.config (g.P.Port.port_state c.open.new.self).device (g.P.Port.port_state c.attach_some.new.port).device
          (c.attach_some.ensures.stays.due ∙ c.in-Ok-link_of.ensures.idle.2) c.attach_some.ensures.machine c.in-Ok-open.ensures.opens.told
          (subst (λ s. IfSome (g.P.Port.port_state c.attach_some.new.port).device (λ d. (d.shape ≡ s) × (d.set ≡ cleared s))) (ap (λ s. s.shape) c.in-Ok-link_of.ensures.set)
          (c.attach_some.ensures.fresh c.if-not-attach_some.false));
    }

pub returns-clause-told : goal.returns-clause-told
returns-clause-told g c =
    let up = invariant_of-self-2 g c in
    tells_held (g.P.Port.port_state c.attach_some.new.port) _ c.attach_some.new.link c.new-self-inside.result c.attach_some.new.again.number c.attach_some.new.failures up.0 up.3
