use Rattle.diag_tests.proofs.Vocabulary.{◌<◌, length, arith, get_or-map, length-map, cross_numbers}
use Rattle.machine_shape.specs.declared.Cross.{Cross}
use Rattle.diag_tests.proofs.Closings.{closes_next}
use Rattle.diag_tests.proofs.configs.close_all.Goals as goal

pub ties-preserved : goal.ties-preserved
ties-preserved c =
    let below : c.ties.c-index < length c.args.ties.now = omega arith in
    let within : c.ties.c-index < length (cross_numbers c.args.ties.now) = rw length-map below in
    rw c.in_ok-close_cross.ensures.closed (closes_next (cross_numbers c.args.ties.now) c.ties.c-index _ _ _ within
    (get_or-map (λ (x : Cross). x.0) c.args.ties.now c.ties.c-index (record { 0 = 0 }) 0 below) c.ties.invariant)
