use Rattle.rig_doubled.proofs.Vocabulary.{subst, RigState, IsRepeating, Repeated, ended_in}
use Rattle.rig_doubled.proofs.Endings.{repeat_explains}
use Rattle.rig_doubled.proofs.repeat_rig.RepeatRig.explained.Goals as goal

pub returns : goal.returns
returns g c =
    let state : g.row.R.Denot → RigState = λ r. g.R.Rig.rig_state r in
    repeat_explains c.self.inside.times c.self.inside.kept (state c.args.self.now.inner) (ended_in state c.args.self.now.past) c.args.self.now
    (subst (λ (r : Repeated g.row.R.Denot). IsRepeating c.self.inside.times c.self.inside.kept r.stands (state r.inner) (ended_in state r.past)) c.self.view_is c.self.invariant)
