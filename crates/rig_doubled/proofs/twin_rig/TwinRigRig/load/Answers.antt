use Rattle.rig_doubled.proofs.Vocabulary.{None, Some, refl, RigState, ended_in}
use Rattle.rig_doubled.proofs.Endings.{both_ended, told_machine}
use Rattle.rig_doubled.proofs.Twinning.{paired_at_load, twins_end}
use Rattle.rig_doubled.proofs.twin_rig.TwinRigRig.load.Goals as goal

pub invariant_of-self : goal.invariant_of-self
invariant_of-self g c =
    let state : g.row.A.Denot → RigState = λ r. g.A.Rig.rig_state r in
    twins_end c.self.invariant refl refl (λ f e. e) (λ f e. e) None tt (ended_in state c.end.new.past.items) c.is_some.result c.is_some.ensures c.end.ensures

pub invariant_of-self-in-Ok : goal.invariant_of-self-in-Ok
invariant_of-self-in-Ok g c =
    let state : g.row.A.Denot → RigState = λ r. g.A.Rig.rig_state r in
    let made = c.in_ok-pair.ensures in
    let paired = paired_at_load c.in_ok-pair.pair c.args.config.now.config c.args.room (state c.load_both.new.first) (g.B.Rig.rig_state c.load_both.new.second)
    made.spare made.read made.other made.rows made.room c.in-Ok.ensures.first_begins c.in-Ok.ensures.second_begins in
    twins_end c.self.invariant c.load_both.ensures.first c.load_both.ensures.second c.load_both.ensures.first_narrows c.load_both.ensures.second_narrows (Some c.in_ok-pair.pair) paired (ended_in state c.end.new.past.items) c.is_some.result c.is_some.ensures c.end.ensures

pub invariant_of-self-in-Err-Failed : goal.invariant_of-self-in-Err-Failed
invariant_of-self-in-Err-Failed g c =
    let state : g.row.A.Denot → RigState = λ r. g.A.Rig.rig_state r in
    twins_end c.self.invariant c.load_both.ensures.first c.load_both.ensures.second c.load_both.ensures.first_narrows c.load_both.ensures.second_narrows None tt (ended_in state c.end.new.past.items) c.is_some.result c.is_some.ensures c.end.ensures

pub invariant_of-self-in-Err-Memory : goal.invariant_of-self-in-Err-Memory
invariant_of-self-in-Err-Memory g c =
    let state : g.row.A.Denot → RigState = λ r. g.A.Rig.rig_state r in
    twins_end c.self.invariant c.load_both.ensures.first c.load_both.ensures.second c.load_both.ensures.first_narrows c.load_both.ensures.second_narrows None tt (ended_in state c.end.new.past.items) c.is_some.result c.is_some.ensures c.end.ensures

pub returns-in_err-pair-clause-logged : goal.returns-in_err-pair-clause-logged
returns-in_err-pair-clause-logged g c = rw (← c.self.view_is) (both_ended c.is_some.result c.self.inside.pair _ _ _ c.is_some.ensures c.end.ensures)

pub returns-in_err-pair-clause-machine : goal.returns-in_err-pair-clause-machine
returns-in_err-pair-clause-machine g c = rw (← c.self.view_is) refl

pub returns-in_err-pair-clause-second_name : goal.returns-in_err-pair-clause-second_name
returns-in_err-pair-clause-second_name g c = rw (← c.self.view_is) refl

pub returns-in-Ok-clause-logged : goal.returns-in-Ok-clause-logged
returns-in-Ok-clause-logged g c = rw (← c.self.view_is) (both_ended c.is_some.result c.self.inside.pair _ _ _ c.is_some.ensures c.end.ensures)

pub returns-in-Ok-clause-machine : goal.returns-in-Ok-clause-machine
returns-in-Ok-clause-machine g c = rw (← c.self.view_is) (told_machine _ _ _ c.load_both.ensures.second)

pub returns-in-Ok-clause-second_name : goal.returns-in-Ok-clause-second_name
returns-in-Ok-clause-second_name g c = rw (← c.self.view_is) refl

pub returns-in-Err-Failed-clause-logged : goal.returns-in-Err-Failed-clause-logged
returns-in-Err-Failed-clause-logged g c = rw (← c.self.view_is) (both_ended c.is_some.result c.self.inside.pair _ _ _ c.is_some.ensures c.end.ensures)

pub returns-in-Err-Failed-clause-machine : goal.returns-in-Err-Failed-clause-machine
returns-in-Err-Failed-clause-machine g c = rw (← c.self.view_is) (told_machine _ _ _ c.load_both.ensures.second)

pub returns-in-Err-Failed-clause-second_name : goal.returns-in-Err-Failed-clause-second_name
returns-in-Err-Failed-clause-second_name g c = rw (← c.self.view_is) refl

pub returns-in-Err-Failed-clause-not_counted : goal.returns-in-Err-Failed-clause-not_counted
returns-in-Err-Failed-clause-not_counted g c = rw (← c.self.view_is) refl

pub returns-clause-logged : goal.returns-clause-logged
returns-clause-logged g c = rw (← c.self.view_is) (both_ended c.is_some.result c.self.inside.pair _ _ _ c.is_some.ensures c.end.ensures)

pub returns-clause-machine : goal.returns-clause-machine
returns-clause-machine g c = rw (← c.self.view_is) (told_machine _ _ _ c.load_both.ensures.second)

pub returns-clause-second_name : goal.returns-clause-second_name
returns-clause-second_name g c = rw (← c.self.view_is) refl

pub returns-clause-not_counted : goal.returns-clause-not_counted
returns-clause-not_counted g c = rw (← c.self.view_is) refl
