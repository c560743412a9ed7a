use Rattle.std.proofs.Common.{◌<◌, List, length, set, sym, ap, subst, arith}
use Rattle.rig_simulated.proofs.Vocabulary.{length-set, get_or-set_same, Gate, level_at, IsLatched, AreTwins}
use Rattle.rig_simulated.proofs.{Levels.no_gate, Twins.twins_set, Twins.outputs_beside, Twins.marked_at}
use Rattle.rig_simulated.proofs.sweeping.take_turn.Goals as goal

pub returns-then-not-gate-clause-marks : goal.returns-then-not-gate-clause-marks
returns-then-not-gate-clause-marks c =
    let xs : List Gate = c.args.gates.now in
    let new : Gate = c.ticked-gate.result in
    let level = level_at c.args.knots.now c.args.low_pins.now c.args.low_tables.now in
    let twins : AreTwins IsLatched xs (set xs c.args.place new) =
    subst (λ (y : Gate). AreTwins IsLatched xs (set xs c.args.place y)) (sym c.ticked-gate.ensures) (twins_set c.args.faults.now.faults level xs c.args.place _ c.requires.place) in
    let long : c.args.place < length (set xs c.args.place new) = (let l = length-set xs c.args.place new in let h = c.requires.place in omega (arith, l, h)) in
    marked_at c.args.low_tables.now (set xs c.args.place new) c.args.place no_gate new.out (λ r e. outputs_beside IsLatched xs (set xs c.args.place new) twins r (c.requires.marks r e)) long
    (ap (λ (y : Gate). y.out) (get_or-set_same xs c.args.place new no_gate c.requires.place))
