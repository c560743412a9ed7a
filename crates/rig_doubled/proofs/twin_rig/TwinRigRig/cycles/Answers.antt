use Rattle.rig_doubled.proofs.Vocabulary.{refl, ◌≡◌, ◌∙◌, ◌++◌, ap, RigState, standing, ended_in, Twins}
use Rattle.rig_doubled.proofs.{Endings.ended_more, Endings.told_machine, Twinning.session_pair, Twinning.twins_fail}
use Rattle.rig_doubled.proofs.twin_rig.TwinRigRig.cycles.Goals as goal

pub invariant_of-self-in-Err-Failed : goal.invariant_of-self-in-Err-Failed
invariant_of-self-in-Err-Failed g c =
    let state : g.row.A.Denot → RigState = λ r. g.A.Rig.rig_state r in
    let now = c.args.self.now in
    let some = session_pair c.self.inside.pair now.spare (state now.first).session (ap (λ (t : Twins g.row.A.Denot g.row.B.Denot). t.spare) c.self.view_is)
    c.requires.session in
    let more : ended_in state c.and-ended.result.items ≡ ended_in state c.self.inside.past.items ++ standing (state c.self.inside.first).session =
    ap (ended_in state) c.and-ended.ensures ∙ ended_more state c.self.inside.past.items c.self.inside.first in
    twins_fail c.self.invariant c.cycles_both.ensures.first c.cycles_both.ensures.second c.cycles_both.ensures.first_narrows c.cycles_both.ensures.second_narrows c.cycles_both.new.pair c.cycles_both.ensures.paired
    (ended_in state c.and-ended.result.items) some more

pub returns-in-Ok-clause-machine : goal.returns-in-Ok-clause-machine
returns-in-Ok-clause-machine g c = rw (← c.self.view_is) (told_machine _ _ _ c.cycles_both.ensures.second)

pub returns-in-Ok-clause-loads : goal.returns-in-Ok-clause-loads
returns-in-Ok-clause-loads g c = rw (← c.self.view_is) refl

pub returns-in-Ok-clause-second_name : goal.returns-in-Ok-clause-second_name
returns-in-Ok-clause-second_name g c = rw (← c.self.view_is) refl

pub returns-in-Err-Failed-clause-machine : goal.returns-in-Err-Failed-clause-machine
returns-in-Err-Failed-clause-machine g c = rw (← c.self.view_is) (told_machine _ _ _ c.cycles_both.ensures.second)

pub returns-in-Err-Failed-clause-loads : goal.returns-in-Err-Failed-clause-loads
returns-in-Err-Failed-clause-loads g c = rw (← c.self.view_is) refl

pub returns-in-Err-Failed-clause-second_name : goal.returns-in-Err-Failed-clause-second_name
returns-in-Err-Failed-clause-second_name g c = rw (← c.self.view_is) refl

pub returns-in-Err-Memory-clause-machine : goal.returns-in-Err-Memory-clause-machine
returns-in-Err-Memory-clause-machine g c = rw (← c.self.view_is) (told_machine _ _ _ c.cycles_both.ensures.second)

pub returns-in-Err-Memory-clause-loads : goal.returns-in-Err-Memory-clause-loads
returns-in-Err-Memory-clause-loads g c = rw (← c.self.view_is) refl

pub returns-in-Err-Memory-clause-second_name : goal.returns-in-Err-Memory-clause-second_name
returns-in-Err-Memory-clause-second_name g c = rw (← c.self.view_is) refl
