use Rattle.rig_doubled.proofs.Vocabulary.{sym, ap, subst, RigState, ended_in, Twins, IsTwinned}
use Rattle.rig_doubled.proofs.Endings.{first_explains, second_explains}
use Rattle.rig_doubled.proofs.twin_rig.TwinRig.explained.Goals as goal

pub returns-clause-first : goal.returns-clause-first
returns-clause-first g c =
    let one : g.row.A.Denot → RigState = λ r. g.A.Rig.rig_state r in
    let other : g.row.B.Denot → RigState = λ r. g.B.Rig.rig_state r in
    let is = subst (λ (t : Twins g.row.A.Denot g.row.B.Denot). IsTwinned t.attached c.self.inside.pair (one t.first) (other t.second) (ended_in one t.past)) c.self.view_is c.self.invariant in
    λ f faults e. first_explains c.args.self.now c.args.self.now.attached c.self.inside.pair (one c.args.self.now.first) (other c.args.self.now.second) (ended_in one c.args.self.now.past)
    (sym (ap (λ (t : Twins g.row.A.Denot g.row.B.Denot). t.spare) c.self.view_is)) is f faults e

pub returns-clause-second : goal.returns-clause-second
returns-clause-second g c =
    let one : g.row.A.Denot → RigState = λ r. g.A.Rig.rig_state r in
    let other : g.row.B.Denot → RigState = λ r. g.B.Rig.rig_state r in
    let is = subst (λ (t : Twins g.row.A.Denot g.row.B.Denot). IsTwinned t.attached c.self.inside.pair (one t.first) (other t.second) (ended_in one t.past)) c.self.view_is c.self.invariant in
    λ f faults e. second_explains c.args.self.now c.args.self.now.attached c.self.inside.pair (one c.args.self.now.first) (other c.args.self.now.second) (ended_in one c.args.self.now.past)
    (sym (ap (λ (t : Twins g.row.A.Denot g.row.B.Denot). t.spare) c.self.view_is)) is f faults e
