use Rattle.std.proofs.Common.{rules, ◌∙◌, ap, length, map}
use Rattle.rig_simulated.specs.{declared.classes.Classes.Classes, Building.cross_of}
use Rattle.rig_simulated.proofs.Going.{is_running, pins_count, fitting, goes_on, as_many, went_on}
use Rattle.rig_simulated.proofs.sim.Sim.cycle.Goals as goal

pub cycle-requires-clause-fitting : goal.cycle-requires-clause-fitting
cycle-requires-clause-fitting c = fitting c.self.inside c.args.self.now c.self.view_is (length c.args.drive.now) c.requires.drive c.self.invariant

pub cycle-requires-clause-drive : goal.cycle-requires-clause-drive
cycle-requires-clause-drive c = pins_count c.self.inside c.args.self.now c.self.view_is (length c.args.drive.now) c.requires.drive c.self.invariant

pub cycle-requires-clause-read : goal.cycle-requires-clause-read
cycle-requires-clause-read c = pins_count c.self.inside c.args.self.now c.self.view_is (length c.args.read.now) c.requires.read c.self.invariant

pub invariant_of-self : goal.invariant_of-self
invariant_of-self c =
    let running = is_running c.self.inside c.args.self.now c.self.view_is (length c.args.drive.now) c.requires.drive in
    record {
      sound = c.self.invariant.sound;
      prepared = c.cycle.ensures.prepared;
      as_many = as_many c.self.inside c.cycle.new.board c.args.drive.now c.cycle.new.read _ _ c.self.invariant running c.cycle.ensures.loaded c.cycle.ensures.cycled (search rules) (search rules);
      listed = ap (λ (cs : Classes). map cross_of cs.closed.items) c.cycle.ensures.classes ∙ c.self.invariant.listed;
      running = λ _. goes_on c.self.inside c.cycle.new.board c.args.drive.now c.cycle.new.read _ _ c.self.invariant running c.cycle.ensures.loaded c.cycle.ensures.cycled (search rules) (search rules);
    }

pub returns-clause-done : goal.returns-clause-done
returns-clause-done c =
    let running = is_running c.self.inside c.args.self.now c.self.view_is (length c.args.drive.now) c.requires.drive in
    went_on c.self.inside c.cycle.new.board c.args.drive.now c.cycle.new.read _ _ c.self.invariant running c.cycle.ensures.loaded c.cycle.ensures.cycled (search rules) (search rules) c.args.self.now c.self.view_is
