use Rattle.rig_port.proofs.Vocabulary.{[], subst, pins_of, cycles_of, IsDriven}
use Rattle.rig_port.proofs.Answered.{first_driven}
use Rattle.rig_port.proofs.rig_port.load_and_drive.Goals as goal

pub returns-clause-driven : goal.returns-clause-driven
returns-clause-driven g c =
    let set = c.args.set.now.config in
    let now = c.in_ok-now.now in
    let driven = c.in_ok-now.ensures.driven set c.in-Ok.ensures.begins.config in
    subst (λ m. IsDriven c.args.asked (pins_of m) set [] c.args.drives.now c.drive.new.line.items now (g.R.Rig.rig_state c.drive.new.inner)) c.shape-shape.ensures.shape
    (first_driven c.args.asked now (pins_of c.shape-shape.result) set (cycles_of (g.R.Rig.rig_state c.load.new.self)) c.args.drives.now c.drive.new.line.items
    (g.R.Rig.rig_state c.drive.new.inner) c.in-Ok.ensures.begins.cycles driven)
