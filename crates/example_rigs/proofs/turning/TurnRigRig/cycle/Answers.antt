use Rattle.std.proofs.Common.{[], ◌∷◌, length, sym, subst, IsSome}
use Rattle.example_rigs.proofs.Readings.{goes_on_by, one_more, one_of, some_width, past_more, turned_fails}
use Rattle.example_rigs.proofs.turning.TurnRigRig.cycle.Goals as goal

pub returns-in-Ok-clause-cycles : goal.returns-in-Ok-clause-cycles
returns-in-Ok-clause-cycles g c =
    let some : IsSome (g.R.Rig.rig_state c.self.inside.now.inner).session =
    subst (λ v. IsSome (g.R.Rig.rig_state v.inner).session) (sym c.self.view_is) (some_width (g.R.Rig.rig_state c.args.self.now.inner) c.args.self.now.place [] (length c.args.drive.now) c.requires.drive_pins) in
    rw (← c.self.view_is) (one_of c.args.drive.now c.pass.new.read _ _ (goes_on_by c.self.inside.now.turn c.pass.new.self (g.R.Rig.rig_state c.self.inside.now.inner) (g.R.Rig.rig_state c.cycle.new.self) (c.self.invariant some)
    (c.args.drive.now ∷ []) (c.cycle.new.read ∷ []) (c.pass.new.read ∷ []) (one_more c.args.drive.now c.cycle.new.read _ _ c.in-Ok.ensures.cycles) c.pass.ensures _))

pub returns-in-Err-Failed-clause-refused : goal.returns-in-Err-Failed-clause-refused
returns-in-Err-Failed-clause-refused g c =
    let fails = rw c.in-Err-Failed.field-0-is at c.in-Err-Failed.ensures.refused in
    let place = c.self.inside.now.turn.place in
    rw (← c.self.view_is) (turned_fails (g.R.Rig.rig_state c.self.inside.now.inner) (g.R.Rig.rig_state c.cycle.new.self) place place _ _
    (past_more (λ r. g.R.Rig.rig_state r) c.self.inside.past.items c.and-ended.result.items c.self.inside.now c.and-ended.ensures
    (λ t. record { inner = t.inner; place = t.turn.place })) fails)
