use Rattle.rig_simulated.proofs.Vocabulary.{◌<◌, ◌∙◌, List, set, length, ap, arith, get_or_default, map_over_more, Gate, level_at, clocked}
use Rattle.rig_simulated.proofs.gates.clock_all.Goals as goal

pub gates-preserved : goal.gates-preserved
gates-preserved c =
    let xs : List Gate = c.args.gates.now in
    let ys : List Gate = c.gates.gates in
    let f = clocked c.args.faults.now.faults (level_at c.args.knots.now c.args.pins.now c.args.tables.now) in
    let inside : c.gates.i < length ys = omega arith in
    ap (set ys c.gates.i) c.clocked.ensures ∙ map_over_more f xs ys c.gates.i _ c.gates-test.true c.gates.invariant (get_or_default ys c.gates.i _ _ inside)
