use Rattle.std.proofs.Common.{length, sym, subst, IsSome}
use Rattle.example_rigs.proofs.Readings.{goes_on_by, some_told, past_more, turned_fail}
use Rattle.example_rigs.proofs.turning.TurnRigRig.cycles.Goals as goal

pub returns-in-Ok-clause-cycles : goal.returns-in-Ok-clause-cycles
returns-in-Ok-clause-cycles g c =
    let some : IsSome (g.R.Rig.rig_state c.self.inside.now.inner).session =
    subst (λ v. IsSome (g.R.Rig.rig_state v.inner).session) (sym c.self.view_is) (some_told (g.R.Rig.rig_state c.args.self.now.inner).session c.args.self.now.place c.requires.session) in
    rw (← c.self.view_is) (goes_on_by c.self.inside.now.turn c.pass_all.new.self (g.R.Rig.rig_state c.self.inside.now.inner) (g.R.Rig.rig_state c.cycles.new.self) (c.self.invariant some)
    c.args.drives.now c.cycles.new.reads c.pass_all.new.reads c.in-Ok.ensures.cycles c.pass_all.ensures.passes _)

pub returns-in-Err-Failed-clause-refused : goal.returns-in-Err-Failed-clause-refused
returns-in-Err-Failed-clause-refused g c =
    let fails = rw c.in-Err-Failed.field-0-is at c.in-Err-Failed.ensures.refused in
    let place = c.self.inside.now.turn.place in
    rw (← c.self.view_is) (turned_fail (length c.args.drives.now) (g.R.Rig.rig_state c.self.inside.now.inner) (g.R.Rig.rig_state c.cycles.new.self) place place _ _
    (past_more (λ r. g.R.Rig.rig_state r) c.self.inside.past.items c.and-ended.result.items c.self.inside.now c.and-ended.ensures
    (λ t. record { inner = t.inner; place = t.turn.place })) fails)
