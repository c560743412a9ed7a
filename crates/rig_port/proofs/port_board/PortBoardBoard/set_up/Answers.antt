use Rattle.rig_port.proofs.Vocabulary.{List, ◌∙◌, subst, sym, Said, StandsTold}
use Rattle.rig_port.proofs.{Resumed.held_here, Resumed.posted_held, Telling.tells_held, Telling.told_here}
use Rattle.rig_port.proofs.Standing.{all_here, all_posted, narrows_none, narrows_posted, set_all}
use Rattle.rig_port.proofs.port_board.PortBoardBoard.set_up.Goals.{in-Ok, in-Err}
use Rattle.rig_port.proofs.port_board.PortBoardBoard.set_up.Goals as goal

pub invariant_of-self-2 : goal.invariant_of-self-2
invariant_of-self-2 g c =
    let port = g.P.Port.port_state c.self.inside.port in
    let held = held_here port c.self.inside.found c.self.inside.again c.in-Some.ensures.value c.self.invariant in
    let e = c.post_session-posted.ensures in (
      posted_held c.post_session-posted.result port c.self.inside.found c.in-Some.link c.post_session-posted.new.link c.args.config.now.config held e.shape e.expected e.check e.room e.linked e.posted
          e.lost,
      e.resumes port.device,
      all_posted c.post_session-posted.result port c.self.inside.found c.in-Some.link c.post_session-posted.new.link c.self.inside.again c.post_session-posted.new.again c.args.config.now.config held
          (all_here port c.self.inside.found c.self.inside.again c.in-Some.ensures.value c.self.invariant) e.shape e.expected e.check e.talk e.room e.linked e.posted e.lost e.resumes,
      subst (λ (t : List Said). StandsTold port t) (sym e.talk) (told_here port c.self.inside.found c.self.inside.again c.in-Some.ensures.value c.self.invariant),
    )

pub returns-in_default-clause-narrows : goal.returns-in_default-clause-narrows
returns-in_default-clause-narrows g c =
    rw (← c.self.view_is) (narrows_none (g.P.Port.port_state c.self.inside.port) c.self.inside.found c.take.new.self c.self.inside.past c.self.inside.again.number c.self.inside.failures
    c.saturating_add-self-inside.result (sym c.in_default.is ∙ c.take.ensures.value) c.take.ensures.after)

pub returns-clause-narrows : goal.returns-clause-narrows
returns-clause-narrows g c =
    rw (← c.self.view_is) (narrows_posted (g.P.Port.port_state c.self.inside.port) c.self.inside.found c.self.inside.past c.self.inside.again.number c.post_session-posted.new.again.number
    c.self.inside.failures c.self.inside.failures c.in-Some.link c.post_session-posted.new.link c.in-Some.ensures.value c.post_session-posted.ensures.talk)

pub returns-clause-set_for_each : goal.returns-clause-set_for_each
returns-clause-set_for_each g c = elim c.match-posted.branch [
  | in-Ok w ↦ rw (w.result-is, ← c.self.view_is) (set_all (g.P.Port.port_state c.self.inside.port) c.self.inside.found c.self.inside.past c.self.inside.again.number
      c.post_session-posted.new.again.number c.self.inside.failures c.self.inside.failures c.in-Some.link c.post_session-posted.new.link c.args.config.now.config c.in-Some.ensures.value
      c.post_session-posted.ensures.talk w.in-Ok.ensures.posted.2 w.in-Ok.ensures.posted.0)
  | in-Err w ↦ rw w.result-is tt
]

pub returns-clause-told : goal.returns-clause-told
returns-clause-told g c = elim c.match-posted.branch [
  | in-Ok w ↦ rw w.result-is (
      let port = g.P.Port.port_state c.self.inside.port in
      let held = held_here port c.self.inside.found c.self.inside.again c.in-Some.ensures.value c.self.invariant in
      let e = c.post_session-posted.ensures in
      tells_held port c.self.inside.found c.post_session-posted.new.link c.self.inside.past c.post_session-posted.new.again.number c.self.inside.failures
      (posted_held c.post_session-posted.result port c.self.inside.found c.in-Some.link c.post_session-posted.new.link c.args.config.now.config held e.shape e.expected e.check e.room e.linked e.posted
      e.lost)
      (subst (λ (t : List Said). StandsTold port t) (sym e.talk) (told_here port c.self.inside.found c.self.inside.again c.in-Some.ensures.value c.self.invariant)))
  | in-Err w ↦ rw w.result-is tt
]
