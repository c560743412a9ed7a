use Rattle.diag_evidence.proofs.Vocabulary.{◌<◌, length, arith, get_or-map, length-map, Cross, closes_next, Foot, feet_crosses}
use Rattle.machine_shape.specs.declared.Wire.{Wire}
use Rattle.diag_evidence.proofs.sights.close_feet.Goals as goal

pub feet-preserved : goal.feet-preserved
feet-preserved c =
    let below : c.feet.k < length c.args.feet.now = c.feet-test.true in
    let many = length-map c.args.feet.now (λ (foot : Foot). foot.1.0) in
    let within : c.feet.k < length (feet_crosses c.args.feet.now) = omega (arith, below, many) in
    let d : Foot = (record { 0 = 0 }, record { 0 = 0 }) in
    rw c.in_ok-close_cross.ensures.closed (closes_next (feet_crosses c.args.feet.now) c.feet.k _ _ _ within (get_or-map (λ (foot : Foot). foot.1.0) c.args.feet.now c.feet.k d 0 below) c.feet.invariant)
