use Rattle.example_rigs.proofs.Readings.{past_more}
use Rattle.example_rigs.proofs.turning.TurnRigRig.load.Goals as goal

pub returns-clause-logged : goal.returns-clause-logged
returns-clause-logged g c = rw (← c.self.view_is) (past_more (λ r. g.R.Rig.rig_state r) c.self.inside.past.items c.and-self-inside.result.items
    c.self.inside.now c.and-self-inside.ensures (λ t. record { inner = t.inner; place = t.turn.place }))

pub returns-in_err-load-clause-logged : goal.returns-in_err-load-clause-logged
returns-in_err-load-clause-logged g c = rw (← c.self.view_is) (past_more (λ r. g.R.Rig.rig_state r) c.self.inside.past.items c.and-self-inside.result.items
    c.self.inside.now c.and-self-inside.ensures (λ t. record { inner = t.inner; place = t.turn.place }))
