use Rattle.example_rigs.proofs.Readings.{turned_attached}
use Rattle.example_rigs.proofs.turning.TurnRigRig.attach.Goals as goal

pub returns-clause-attached : goal.returns-clause-attached
returns-clause-attached g c = rw (← c.self.view_is) (turned_attached (λ r. g.R.Rig.rig_state r) c.attach.result (record { shape = c.args.shape.now; name = c.args.name.now })
    (g.R.Rig.rig_state c.self.inside.now.inner) (g.R.Rig.rig_state c.attach.new.self) _ c.self.inside.now.turn.place _ c.new-self-inside.result.items c.new-self-inside.ensures (λ t. record { inner = t.inner; place = t.turn.place })
    c.attach.ensures.attached)
