use Rattle.rig_port.proofs.Vocabulary.{◌≡◌, pins_of, lengths_kept}
use Rattle.rig_port.proofs.Answered.{went_on}
use Rattle.rig_port.proofs.rig_port.drive_rows.Goals as goal

pub returns-clause-driven : goal.returns-clause-driven
returns-clause-driven g c = λ h is.
    went_on c.args.asked c.put_readings.result (pins_of c.args.shape.now) h c.args.drives.now c.cycles.new.reads c.put_readings.new.line.items (g.R.Rig.rig_state c.args.inner.now)
    (g.R.Rig.rig_state c.cycles.new.self) c.in-Ok.ensures.cycles is
    (lengths_kept (λ l. l ≡ pins_of c.args.shape.now) c.args.reads.now c.cycles.new.reads c.cycles.ensures.lengths c.requires.wide_too) c.put_readings.ensures.spelled
    c.put_readings.ensures.behind
