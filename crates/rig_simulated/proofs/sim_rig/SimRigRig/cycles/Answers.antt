use Rattle.rig_simulated.proofs.Vocabulary.{◌≡◌, Option, Some, IfSome, ap, subst, option_and_then, GoesOnByFrom}
use Rattle.rig_simulated.specs.declared.sim_rig.Attached.{Attached}
use Rattle.rig_simulated.proofs.Turns.{rig_goes_on}
use Rattle.rig_simulated.proofs.sim_rig.SimRigRig.cycles.Goals as goal

pub returns-in-Ok-clause-cycles : goal.returns-in-Ok-clause-cycles
returns-in-Ok-clause-cycles g c =
    rig_goes_on c.in-Some.attached.sim.machine.faults c.args.drives.now c.cycles-done.new.reads _ _ _
    (option_and_then (λ (a : Attached). a.sim.session) c.args.self.now.attached) _ _ _ _ _ c.requires.session c.in-Ok.ensures.done.session
    (ap (λ m. Some m.faults) c.in-Ok.ensures.machine)
    (subst (λ (o : Option Attached). IfSome (option_and_then (λ (a : Attached). a.sim.session) o) (λ s. IfSome c.cycles-done.new.self.session
    (λ t. GoesOnByFrom c.in-Some.attached.sim.machine.faults c.args.drives.now c.cycles-done.new.reads s t))) c.in-Some.ensures.value c.in-Ok.ensures.done.goes_on)
