use Rattle.std.proofs.Common.{◌≡◌, ◌<◌, length, get_or, true, slice_index_or, arith, add-one, refl}
use Rattle.run_image.proofs.Vocabulary.{take-suc-set, take-suc, gets, map-append}
use Rattle.run_image.proofs.run.read_pins.Goals as goal

pub places-preserved : goal.places-preserved
places-preserved c =
    let in_out : c.places.k < length c.places.out = omega arith in
    let in_pins : c.places.k < length c.args.pins.now = omega arith in
    let value : c.get.result ≡ slice_index_or c.args.read.now (get_or c.args.pins.now c.places.k 0) true = grind (arith, gets, c.get.ensures) in
    rw (add-one, take-suc-set c.places.out c.places.k c.get.result in_out, take-suc c.args.pins.now c.places.k 0 in_pins, map-append (λ pin. slice_index_or c.args.read.now pin true), value, c.places.invariant) refl
