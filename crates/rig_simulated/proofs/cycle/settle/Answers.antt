use Rattle.rig_simulated.proofs.Vocabulary.{◌<◌, ℕ, All, length, sym, subst, arith, tables_of, Gate}
use Rattle.rig_simulated.proofs.{Ticking.outs_fit, Twins.at_rest}
use Rattle.rig_simulated.proofs.cycle.settle.Goals as goal

pub returns-clause-ticked : goal.returns-clause-ticked
returns-clause-ticked c = λ settles.
    let s = settles c.if-not-ranked.false in
    let fits = subst (λ (n : ℕ). All (λ (x : Gate). x.out < n) c.args.gates.now) (sym c.requires.tables) (outs_fit (tables_of c.args.frame.now.faults.now.shape) (length c.args.frame.now.knots.now) c.args.gates.now c.requires.fits) in
    at_rest c.args.frame.now.faults.now.faults c.args.frame.now.knots.now c.args.frame.now.low_pins.now c.args.low_tables.now c.requires.clear s.rank c.args.manner.now.ticks c.args.gates.now c.sweep.new.gates s.ranked fits c.sweep.ensures.twins
    c.args.manner.now.ticks c.tick_times-2.new.gates (omega arith) c.tick_times-2.ensures.ticked
